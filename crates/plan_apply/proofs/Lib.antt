-- Laws on a change made in place.
pub mod MakeLaws
