-- What two byte lists have in common at their ends.
pub mod Common
-- how the code goes about it
pub mod Scan
