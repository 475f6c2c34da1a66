-- Laws of numbers in groups of seven bits.
pub mod Laws
pub mod CodeLaws
