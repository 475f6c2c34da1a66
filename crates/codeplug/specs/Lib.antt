-- The codeplug file: what its records are.
pub mod Read
pub mod Prevalidated
pub mod There
pub mod Editions
