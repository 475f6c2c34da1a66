-- Laws on how bytes stand in a line.
pub mod LineLaws
