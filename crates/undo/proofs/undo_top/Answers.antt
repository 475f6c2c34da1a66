-- The scan finds the first entry, or that there is none.
use mathlib.Core.Path.{◌≡◌, ap, ◌∙◌}
use borrow.Author.Rules.{rules}
use Rattle.std.specs.Result.{result_ok}
use Rattle.format.specs.declared.refusals.Reason.TheVariants as reason
use Rattle.fields.specs.Rule.{Refused}
use lib.ListN.{length-take}
use Rattle.journal.proofs.ScanLaws.{head_read, head_broken}
use Rattle.preconditions.proofs.PreconditionLaws.{preconditions-inside}
use Rattle.undo.proofs.UndoLaws.{held-read, undo-broken, undo-none, undo-first-entry, undo-asks}
use native.Mathlib.Omega.{arith}
use Rattle.undo.proofs.undo_top.Goals as goal

pub slice_bounds-history_entries-end : goal.slice_bounds-history_entries-end
slice_bounds-history_entries-end c =
    let e = c.args in
    let i = preconditions-inside _ e.room.now e.len e.history.now e.used c.requires in
    i.1

pub slice_bounds-history_entries-end-2 : goal.slice_bounds-history_entries-end-2
slice_bounds-history_entries-end-2 c =
    let e = c.args in
    let i = preconditions-inside _ e.room.now e.len e.history.now e.used c.requires in
    simp length-take (omega arith)

pub returns-in_err-entries : goal.returns-in_err-entries
returns-in_err-entries c =
    let e = c.args in
    let none = c.ok_or.ensures.ok_part ∙ ap result_ok c.in_err-entries.was in
    let returned : c.from_residual.result ≡ Refused reason.BadHistory 0 = search rules in
    rw returned (undo-broken _ e.room.now e.len e.history.now e.used c.requires c.history_entries.ensures none)

pub slice_bounds-history_entry_at-end : goal.slice_bounds-history_entry_at-end
slice_bounds-history_entry_at-end c =
    let e = c.args in
    let i = preconditions-inside _ e.room.now e.len e.history.now e.used c.requires in
    i.1

pub slice_bounds-history_entry_at-end-2 : goal.slice_bounds-history_entry_at-end-2
slice_bounds-history_entry_at-end-2 c =
    let e = c.args in
    let i = preconditions-inside _ e.room.now e.len e.history.now e.used c.requires in
    simp length-take (omega arith)

pub returns-in_err-top : goal.returns-in_err-top
returns-in_err-top c =
    let e = c.args in
    let w = held-read _ _ c.history_entries.ensures (c.ok_or.ensures.ok_part ∙ ap result_ok c.in_ok-entries.was) in
    let none = c.ok_or-2.ensures.ok_part ∙ ap result_ok c.in_err-top.was in
    let returned : c.from_residual-in_err-top.result ≡ Refused reason.NoUndo 0 = search rules in
    rw returned (undo-none _ e.room.now e.len e.history.now e.used c.requires _ w (head_broken _ 0 _ c.history_entry_at.ensures none))

pub take_back-requires : goal.take_back-requires
take_back-requires c =
    let e = c.args in
    let w = held-read _ _ c.history_entries.ensures (c.ok_or.ensures.ok_part ∙ ap result_ok c.in_ok-entries.was) in
    undo-asks _ e.room.now e.len e.history.now e.used c.requires _ _ w (head_read _ 0 _ c.history_entry_at.ensures (c.ok_or-2.ensures.ok_part ∙ ap result_ok c.in_ok-top.was))

pub returns : goal.returns
returns c =
    let e = c.args in
    let w = held-read _ _ c.history_entries.ensures (c.ok_or.ensures.ok_part ∙ ap result_ok c.in_ok-entries.was) in
    c.take_back.ensures
    ∙ undo-first-entry _ e.room.now e.len e.history.now e.used c.requires _ _ w (head_read _ 0 _ c.history_entry_at.ensures (c.ok_or-2.ensures.ok_part ∙ ap result_ok c.in_ok-top.was))
    (λ j. (c.slice_known-2-1.given j).fits)
