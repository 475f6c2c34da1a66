-- What validation by the legacy reading answers.
pub mod Validation
