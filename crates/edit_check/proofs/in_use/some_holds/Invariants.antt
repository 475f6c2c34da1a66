-- The invariant: the banks from p on answer for all; the bound keeps p in range.
use Prim.Native.Nat.{◌+◌, ◌*◌, ◌-◌, ◌≤◌, ◌^◌}
use mathlib.Core.Path.{◌≡◌}
use Rattle.model.specs.Codeplug.{banks_at, codeplug_of}
use Rattle.model.specs.EditRules.{some_holds}
use Rattle.edit_check.proofs.in_use.some_holds.Given as goal

abbrev pub invariant-loop : goal.invariant-loop
invariant-loop l =
    (l.p ≤ l.initial.p + l.counter * 2 ^ 18)
    × (some_holds l.i (codeplug_of l.f).banks ≡ some_holds l.i (banks_at l.f (l.end - l.counter) l.p))
