-- Laws of an edit's result: its validity and its length.
pub mod LengthLaws
pub mod ValidityLaws
