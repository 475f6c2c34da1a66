-- Laws of the file's definitions, and what holds of an accepted file.
pub mod Laws
pub mod Prevalidated
pub mod AcceptedFile
pub mod Editions
