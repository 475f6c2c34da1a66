-- Laws of bytes moved within a buffer.
pub mod Laws
pub mod SeamLaws
