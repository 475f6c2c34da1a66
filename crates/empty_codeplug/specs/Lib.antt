-- The empty codeplug.
pub mod Empty
