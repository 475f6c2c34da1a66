-- Laws of codeplugs as lists of records and of their files, for the crates above.
pub mod Blocks
pub mod FileOf
pub mod Shape
pub mod Validated
pub mod PlaceLaws
pub mod KindLaws
