-- Laws of the definitions, for the proofs here and for the crates above.
pub mod Laws
