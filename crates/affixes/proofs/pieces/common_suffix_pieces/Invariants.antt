-- The invariant: the last e bytes agree, and what is common before them is what the first i pieces have in common with the rest of s.
use Prim.Native.Nat.{◌+◌, ◌-◌, ◌≤◌}
use mathlib.Core.Path.{◌≡◌}
use lib.ListN.{length, take}
use Rattle.affixes.specs.Common.{common_suffix}
use Rattle.affixes.proofs.PieceLaws.{joined}
use Rattle.affixes.proofs.pieces.common_suffix_pieces.Given as goal

abbrev pub invariant-loop-i : goal.invariant-loop-i
invariant-loop-i l =
    (l.e ≤ length l.s)
    × (common_suffix l.s (joined l.pieces) ≡ l.e + common_suffix (take (length l.s - l.e) l.s) (joined (take l.i l.pieces)))
