-- Indexes and offsets that follow an edit, as the code moves them. No promise to a caller rests on these: what an edit does is said in
-- model, specs/Edits.antt.
pub mod Shift
pub mod Moved
