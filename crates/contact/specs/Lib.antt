-- Contact records of 39 bytes.
pub mod Contact
