-- M17 addresses, as document 01 reads source 001, by either edition.
pub mod Address
pub mod Edition
-- what the older edition is compared with
pub mod Before
