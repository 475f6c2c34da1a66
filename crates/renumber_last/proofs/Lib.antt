-- Laws of the last index that moves.
pub mod LastLaws
