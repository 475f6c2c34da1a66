-- Numbers in groups of seven bits.
pub mod Number
