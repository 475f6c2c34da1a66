-- Answers of the C interface that are numbers alone.
pub mod Numbers
pub mod History
