-- What a plan makes of a file, beside an edit's rule. No promise to a caller rests on it.
pub mod Planned
