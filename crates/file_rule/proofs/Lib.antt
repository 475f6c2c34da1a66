-- Laws of the whole file.
pub mod Laws
pub mod FileLaws
pub mod EditionLaws
