-- The library's answers as structures of C.
pub mod Texts
pub mod Files
pub mod Contacts
pub mod Channels
