-- Laws of the sum of a text's digits, and of the hash sign before them.
pub mod SumLaws
