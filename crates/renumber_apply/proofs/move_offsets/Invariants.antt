-- The invariant: i offsets are moved.
use Rattle.renumber.specs.Moved.{offsets_moved}
use Rattle.renumber.specs.Shift.{growth_of}
use Rattle.fields.specs.Bytes.{over}
use lib.ListN.{length}
use mathlib.Core.Path.{◌≡◌}
use Rattle.renumber_apply.proofs.move_offsets.Given as goal

abbrev pub invariant-loop-i : goal.invariant-loop-i
invariant-loop-i l = (length l.d ≡ length l.initial.d) × (l.d ≡ over l.initial.d l.start (offsets_moved l.i (growth_of l.g) l.initial.d l.start))
