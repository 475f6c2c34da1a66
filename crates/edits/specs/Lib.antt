-- The twelve edits of a file: the file that each rule describes, what refuses them, and demand 3.
pub mod Result
pub mod Editing
pub mod Demand
-- how the code goes about it
pub mod ResultValidity
