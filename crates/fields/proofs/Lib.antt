-- Laws of the definitions, for the proofs here and for the record crates.
pub mod Laws
pub mod TableLaws
