-- CTCSS tones.
pub mod Tone
