-- Laws of an undo: an exchange and its inverse, the steps.
pub mod ExchangeLaws
pub mod UndoLaws
