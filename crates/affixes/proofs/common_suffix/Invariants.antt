-- The invariant: i bytes agree, and what is common before them is what the rests have in common.
use Rattle.affixes.specs.Scan.{SuffixTo}
use Rattle.affixes.proofs.common_suffix.Given as goal

abbrev pub invariant-loop-i : goal.invariant-loop-i
invariant-loop-i l = SuffixTo l.a l.b l.i
