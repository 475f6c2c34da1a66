-- A text field written.
pub mod Field
