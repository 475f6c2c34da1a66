-- The invariant: ok says whether the first i entries are valid.
use Rattle.std.proofs.Common.{◌≡◌}
use Rattle.layout.specs.Banks.{entry_at}
use Rattle.fields.specs.Rule.{is_valid, each}
use Rattle.entry_validation.proofs.whole.entries_valid.Given as goal

abbrev pub invariant-loop-i : goal.invariant-loop-i
invariant-loop-i l = l.ok ≡ is_valid (each (entry_at l.f) l.i 2 l.start)
