-- What is read into a buffer, and how bytes are written as lines.
pub mod Lines
pub mod Reading
