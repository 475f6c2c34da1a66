-- What is promised of a migrated file.
pub mod Promise
