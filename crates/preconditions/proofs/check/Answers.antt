-- 30, then validation of the file and the scan of the history.
use mathlib.Core.Path.{sym, ◌∙◌}
use lib.ListN.{length, length-take}
use native.Mathlib.Omega.{arith}
use Rattle.preconditions.proofs.PreconditionLaws.{lengths-inside}
use Rattle.preconditions.proofs.check.Goals as goal

pub slice_bounds-validity_of-end : goal.slice_bounds-validity_of-end
slice_bounds-validity_of-end c =
    let a = c.args in
    let inside = lengths-inside a.len (length a.room.now) a.used (length a.history.now) (sym c.unless.ensures ∙ c.in_ok-unless.was) in
    simp length-take (omega arith)

pub slice_bounds-whole_entries-end : goal.slice_bounds-whole_entries-end
slice_bounds-whole_entries-end c =
    let a = c.args in
    let inside = lengths-inside a.len (length a.room.now) a.used (length a.history.now) (sym c.unless.ensures ∙ c.in_ok-unless.was) in
    simp length-take (omega arith)
