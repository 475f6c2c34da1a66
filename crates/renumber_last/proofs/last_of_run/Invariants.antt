-- The invariant: the last entry that moves among i entries.
use Rattle.model.specs.Codeplug.{pairs, indexes_at}
use mathlib.Core.List.{map}
use Rattle.renumber_last.specs.Last.{LastMoved}
use Rattle.renumber.specs.Shift.{shift_of}
use Rattle.fields.specs.Bytes.{over}
use Rattle.renumber_last.proofs.last_of_run.Given as goal

abbrev pub invariant-loop-i : goal.invariant-loop-i
invariant-loop-i l = LastMoved (shift_of l.s) l.f (over l.f l.start (pairs (map (shift_of l.s) (indexes_at l.f l.i l.start)))) l.start l.last
