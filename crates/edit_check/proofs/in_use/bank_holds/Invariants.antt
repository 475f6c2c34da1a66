-- The invariant: the entries from the j-th on answer for all.
use Prim.Native.Nat.{◌+◌, ◌*◌, ◌-◌}
use mathlib.Core.Path.{◌≡◌}
use Rattle.model.specs.Codeplug.{indexes_at}
use Rattle.model.specs.EditRules.{holds_channel}
use Rattle.edit_check.proofs.in_use.bank_holds.Given as goal

abbrev pub invariant-loop-j : goal.invariant-loop-j
invariant-loop-j l =
    holds_channel l.i (indexes_at l.f l.n l.start) ≡ holds_channel l.i (indexes_at l.f (l.n - l.j) (l.start + l.j * 2))
