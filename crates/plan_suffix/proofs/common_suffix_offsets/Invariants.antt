-- The invariant: the last e bytes agree, and what is common before them is what the first i offsets have in common with the rest of s.
use Prim.Native.Nat.{◌+◌, ◌-◌, ◌≤◌}
use mathlib.Core.Path.{◌≡◌}
use lib.ListN.{length, take}
use Rattle.affixes.specs.Common.{common_suffix}
use Rattle.renumber.specs.Shift.{growth_of}
use Rattle.renumber.specs.Moved.{offsets_moved}
use Rattle.plan_suffix.proofs.common_suffix_offsets.Given as goal

abbrev pub invariant-loop-i : goal.invariant-loop-i
invariant-loop-i l =
    (l.e ≤ length l.s)
    × (common_suffix l.s (offsets_moved l.fn.t.many (growth_of l.growth) l.f l.start)
    ≡ l.e + common_suffix (take (length l.s - l.e) l.s) (offsets_moved l.i (growth_of l.growth) l.f l.start))
