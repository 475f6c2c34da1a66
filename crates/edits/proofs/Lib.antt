-- The theory of the twelve edits: reading a result, and demand 3.
pub mod AcceptedCodeplug
pub mod ListEdits
pub mod Moves
pub mod HeaderEdit
pub mod BankEdits
pub mod BankKinds
pub mod ChannelEdits
pub mod MovedChannel
pub mod ContactEdits
pub mod EditShape
pub mod ResultLaws
pub mod Promised
