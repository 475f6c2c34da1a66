-- How the code tells a change's place and lengths.
pub mod Measure
