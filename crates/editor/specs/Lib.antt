-- How the code of an edit goes about it.
pub mod Edit
