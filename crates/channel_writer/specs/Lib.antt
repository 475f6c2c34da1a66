-- Channels written.
pub mod Writing
