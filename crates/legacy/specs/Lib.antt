-- The legacy reading, and what migrating a file makes of it.
pub mod Reading
pub mod Migration
