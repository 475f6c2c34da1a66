-- Laws on what agrees behind a change of offsets.
pub mod SuffixLaws
