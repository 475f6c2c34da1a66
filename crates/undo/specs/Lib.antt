-- How the code of an undo goes about it.
pub mod Undo
