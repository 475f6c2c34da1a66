-- What is lent to a call, and what it leaves.
pub mod Calls
