-- The invariant: so many banks' entries are moved, and the next bank starts at p.
use Rattle.renumber.specs.Moved.{banks_moved}
use Rattle.renumber.specs.Shift.{shift_of}
use Rattle.layout.specs.Banks.{bank_from}
use Rattle.fields.specs.Bytes.{over}
use lib.ListN.{length}
use mathlib.Core.Path.{◌≡◌}
use Rattle.renumber_apply.proofs.move_entries.Given as goal

abbrev pub invariant-loop : goal.invariant-loop
invariant-loop l =
    (l.p ≡ bank_from l.initial.d l.counter l.start)
    × ((length l.d ≡ length l.initial.d) × (l.d ≡ over l.initial.d l.start (banks_moved (shift_of l.s) l.initial.d l.counter l.start)))
