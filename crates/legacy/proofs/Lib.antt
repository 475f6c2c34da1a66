-- Laws of the legacy reading and of migrating.
pub mod ByteLaws
pub mod RunLaws
pub mod RecordLaws
pub mod LayoutLaws
pub mod ContactLaws
pub mod ChannelLaws
pub mod FileLaws
pub mod RefusalLaws
