-- What the record crates build on: parts of byte lists, numbers in bytes, and the answer "first bad field".
pub mod Bytes
pub mod Rule
pub mod Table
