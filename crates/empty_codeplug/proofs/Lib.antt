-- Laws of the empty codeplug: its length, and that it is accepted and holds nothing.
pub mod Laws
pub mod EmptyFile
