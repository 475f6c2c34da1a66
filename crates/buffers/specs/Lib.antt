-- Bytes moved within a buffer.
pub mod Cut
-- how the code goes about it
pub mod Splice
