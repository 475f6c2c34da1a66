-- Refused as it stands or for want of such an edit, or an edit of a known kind.
use mathlib.Core.Path.{◌≡◌, ap, sym, ◌∙◌}
use borrow.Author.Rules.{rules}
use Rattle.std.specs.Prelude.{Err}
use Rattle.std.specs.Result.{result_ok}
use Rattle.format.specs.declared.refusals.Reason.TheVariants as reason
use Rattle.fields.specs.Rule.{Refused}
use Rattle.preconditions.specs.Calls.{state_of, edit_request}
use Rattle.editor.proofs.EditLaws.{edit-refused, edit-no-kind, edit-known}
use Rattle.editor.proofs.edit.Goals as goal

pub returns-in_err-check : goal.returns-in_err-check
returns-in_err-check c =
    let e = c.args in
    let returned : c.from_residual.result ≡ Err c.in_err-check.field-0.0 = search rules in
    rw returned
    (edit-refused _ (edit_request e.kind e.first e.second e.bytes.now) (state_of e.room.now e.len e.history.now e.used) _ _
    c.check.ensures c.in_err-check.was)

pub edit_known-requires : goal.edit_known-requires
edit_known-requires c = sym c.check.ensures ∙ c.in_ok-check.was

pub returns-in_err-k : goal.returns-in_err-k
returns-in_err-k c =
    let e = c.args in
    let none = c.ok_or.ensures.ok_part ∙ ap result_ok c.in_err-k.was in
    let returned : c.from_residual-in_err-k.result ≡ Refused reason.NoEdit 0 = search rules in
    rw returned
    (edit-no-kind _ (edit_request e.kind e.first e.second e.bytes.now) (state_of e.room.now e.len e.history.now e.used) _
    (sym c.check.ensures ∙ c.in_ok-check.was) c.kind_of.ensures none)

pub returns : goal.returns
returns c =
    let e = c.args in
    let known = c.ok_or.ensures.ok_part ∙ ap result_ok c.in_ok-k.was in
    c.edit_known.ensures
    ∙ edit-known _ (edit_request e.kind e.first e.second e.bytes.now) (state_of e.room.now e.len e.history.now e.used) _ _
    (sym c.check.ensures ∙ c.in_ok-check.was) c.kind_of.ensures known
