-- Laws of written channels, and the theorems on reading and writing together.
pub mod WriteLaws
pub mod RoundTrip
