-- Bank entries, one at a time.
pub mod Entry
