-- The invariant: i entries are moved.
use Rattle.model.specs.Codeplug.{pairs, indexes_at}
use mathlib.Core.List.{map}
use Rattle.renumber.specs.Shift.{shift_of}
use Rattle.fields.specs.Bytes.{over}
use lib.ListN.{length}
use mathlib.Core.Path.{◌≡◌}
use Rattle.renumber_apply.proofs.move_run.Given as goal

abbrev pub invariant-loop-i : goal.invariant-loop-i
invariant-loop-i l = (length l.d ≡ length l.initial.d) × (l.d ≡ over l.initial.d l.start (pairs (map (shift_of l.s) (indexes_at l.initial.d l.i l.start))))
