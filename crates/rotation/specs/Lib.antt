-- Bytes rotated: how the code goes about it.
pub mod Rotation
