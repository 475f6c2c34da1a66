-- Laws of a channel's contact index.
pub mod WholeLaws
