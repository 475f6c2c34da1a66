-- The invariant: the channels from the n-th on answer for all.
use Prim.Native.Nat.{◌+◌, ◌*◌, ◌-◌}
use mathlib.Core.Path.{◌≡◌}
use lib.ListN.{drop}
use Rattle.model.specs.Codeplug.{blocks, codeplug_of}
use Rattle.model.specs.EditRules.{some_names}
use Rattle.edit_check.proofs.in_use.some_names.Given as goal

abbrev pub invariant-loop-n : goal.invariant-loop-n
invariant-loop-n l =
    some_names l.i (codeplug_of l.f).channels ≡ some_names l.i (blocks 90 (l.n-end - l.n) (drop (l.start + l.n * 90) l.f))
