-- Laws of what both calls validate first.
pub mod PreconditionLaws
