-- What the code compares to tell how much agrees behind a change of offsets.
pub mod Suffix
