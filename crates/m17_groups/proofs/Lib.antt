-- Laws of a text in groups of three places.
pub mod Laws
