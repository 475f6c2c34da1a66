-- The rows of document 01's table of examples that are marked P.
pub mod PaperRows
