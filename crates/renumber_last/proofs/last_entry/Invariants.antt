-- The invariant: the last entry that moves in so many banks; the next bank starts at p.
use Rattle.renumber_last.specs.Last.{LastMoved}
use Rattle.renumber.specs.Moved.{banks_moved}
use Rattle.renumber.specs.Shift.{shift_of}
use Rattle.layout.specs.Banks.{bank_from}
use Rattle.fields.specs.Bytes.{over}
use mathlib.Core.Path.{◌≡◌}
use Rattle.renumber_last.proofs.last_entry.Given as goal

abbrev pub invariant-loop : goal.invariant-loop
invariant-loop l =
    (l.p ≡ bank_from l.f l.counter l.start)
    × LastMoved (shift_of l.s) l.f (over l.f l.start (banks_moved (shift_of l.s) l.f l.counter l.start)) l.start l.last
