-- Refused as it stands, or the first entry taken back.
use mathlib.Core.Path.{◌≡◌, sym, ◌∙◌}
use borrow.Author.Rules.{rules}
use Rattle.std.specs.Prelude.{Err}
use Rattle.undo.proofs.UndoLaws.{undo-refused}
use Rattle.undo.proofs.undo.Goals as goal

pub returns-in_err-check : goal.returns-in_err-check
returns-in_err-check c =
    let e = c.args in
    let returned : c.from_residual.result ≡ Err c.in_err-check.field-0.0 = search rules in
    rw returned (undo-refused _ e.room.now e.len e.history.now e.used _ c.check.ensures c.in_err-check.was)

pub undo_top-requires : goal.undo_top-requires
undo_top-requires c = sym c.check.ensures ∙ c.in_ok-check.was
