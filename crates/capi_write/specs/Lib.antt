-- What the writers of the C interface answer.
pub mod Contacts
pub mod Channels
pub mod Texts
