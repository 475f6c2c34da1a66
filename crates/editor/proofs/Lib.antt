-- Laws of an edit's steps.
pub mod EditLaws
