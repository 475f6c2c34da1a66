-- Laws of a text written as its field, and that it reads back.
pub mod Laws
