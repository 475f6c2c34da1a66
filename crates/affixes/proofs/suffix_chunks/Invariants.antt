-- The invariant: k chunks agree, and what is common before them is what the rests have in common.
use Prim.Native.Nat.{◌*◌}
use Rattle.affixes.specs.Scan.{SuffixTo}
use Rattle.affixes.proofs.suffix_chunks.Given as goal

abbrev pub invariant-loop-k : goal.invariant-loop-k
invariant-loop-k l = SuffixTo l.a l.b (32 * l.k)
