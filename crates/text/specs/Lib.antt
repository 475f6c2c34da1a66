-- Texts, and how the code goes through one.
pub mod Text
-- how the code goes about it
pub mod Scan
