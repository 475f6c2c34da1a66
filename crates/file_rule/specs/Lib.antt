-- The codeplug file: what is accepted.
pub mod File
