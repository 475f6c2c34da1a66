-- How the code of a decoding goes about it.
pub mod Begin
