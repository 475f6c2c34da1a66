-- The promises of migrating, and the laws that the code cites.
pub mod Laws
pub mod Migrated
