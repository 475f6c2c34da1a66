-- The history: entries that undo edits of a byte list. Nothing here knows what a codeplug is.
pub mod Answer
pub mod Entry
pub mod History
pub mod Change
pub mod EditSystem
pub mod Machine
pub mod Book
pub mod Promise
-- how the code goes about it
pub mod Scan
pub mod Span
