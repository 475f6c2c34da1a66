-- Channels: single values, and the rule of a record.
pub mod Values
pub mod Rule
