-- At index i, the first i bytes are those of s at k.
use Prim.Native.Nat.{ℕ, ◌+◌, ◌<◌}
use mathlib.Core.Path.{◌≡◌}
use lib.ListN.{length, get_or}
use Rattle.fields.proofs.numbers.bytes_at.Given as goal

abbrev pub invariant-loop-i : goal.invariant-loop-i
invariant-loop-i g l = (length l.a ≡ g.row.N) × ((j : ℕ) → j < l.i → get_or l.a j 0 ≡ get_or l.s (l.k + j) 0)
