-- A change of a codeplug's bytes, planned before anything is written. No promise to a caller rests on these: that a plan makes the file which
-- an edit's rule describes is proved (edit_plan, proofs/PlanLaws.antt).
pub mod Plan
pub mod Fits
