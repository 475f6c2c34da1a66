-- Channels read.
pub mod Reading
