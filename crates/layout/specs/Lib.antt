-- The layout of a file: counts and places, the header, the banks.
pub mod Places
pub mod Header
pub mod Banks
