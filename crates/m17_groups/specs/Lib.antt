-- How a group of digits is written.
pub mod Places
