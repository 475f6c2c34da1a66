-- Laws of a group's digits.
pub mod DigitLaws
