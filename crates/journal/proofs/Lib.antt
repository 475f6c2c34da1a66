-- Laws of the history, for the crates above, and laws of the code that reads and writes it; the promise over every list of calls.
pub mod Laws
pub mod ScanLaws
pub mod ChangeLaws
pub mod RecordLaws
pub mod BookLaws
pub mod StepLaws
pub mod Promise
