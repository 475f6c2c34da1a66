-- The invariant: i channels are moved.
use Rattle.renumber.specs.Moved.{channels_moved}
use Rattle.renumber.specs.Shift.{shift_of}
use Rattle.fields.specs.Bytes.{over}
use lib.ListN.{length}
use mathlib.Core.Path.{◌≡◌}
use Rattle.renumber_apply.proofs.move_contacts.Given as goal

abbrev pub invariant-loop-i : goal.invariant-loop-i
invariant-loop-i l = (length l.d ≡ length l.initial.d) × (l.d ≡ over l.initial.d l.start (channels_moved (shift_of l.s) l.initial.d l.i l.start))
