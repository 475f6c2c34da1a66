-- Bytes that hold more than one value, and signed bytes.
pub mod Packed
