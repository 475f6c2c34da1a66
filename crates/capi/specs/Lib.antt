-- What the two calls of the C interface answer, and its version.
pub mod Calls
pub mod Version
