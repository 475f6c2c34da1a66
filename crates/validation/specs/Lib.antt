-- What validation answers.
pub mod Validation
