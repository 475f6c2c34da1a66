-- Laws of plans.
pub mod Laws
