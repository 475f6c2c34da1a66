-- The invariant: the first i entries are valid.
use Rattle.std.proofs.Common.{◌≡◌}
use Rattle.layout.specs.Banks.{entry_at}
use Rattle.fields.specs.Rule.{Valid, each}
use Rattle.entry_validation.proofs.find_entry.Given as goal

abbrev pub invariant-loop-i : goal.invariant-loop-i
invariant-loop-i l = each (entry_at l.f) l.i 2 l.start ≡ Valid
