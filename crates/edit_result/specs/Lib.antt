-- What an edit puts in, for validation of its result.
pub mod Growth
