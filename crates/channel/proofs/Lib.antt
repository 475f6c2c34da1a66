-- Laws of channel records.
pub mod Laws
