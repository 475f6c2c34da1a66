-- Laws of a text that is written straight into a buffer.
pub mod WriteLaws
