-- Laws of renumbering.
pub mod Laws
