-- A codeplug as lists of records, its file, and the twelve edits on it.
pub mod Codeplug
pub mod Kinds
pub mod Edits
pub mod EditRules
pub mod HasLayout
