-- Laws of a legacy channel's contact index.
pub mod IndexLaws
