-- How the code of an encoding goes about it.
pub mod Texts
