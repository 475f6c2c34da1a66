-- Laws of an edit's refusals.
pub mod InUse
pub mod RefusalLaws
