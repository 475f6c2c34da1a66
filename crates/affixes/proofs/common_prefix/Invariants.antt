-- The invariant: i bytes agree, and what is common beyond them is what the rests have in common.
use Rattle.affixes.proofs.ChunkLaws.{PrefixTo}
use Rattle.affixes.proofs.common_prefix.Given as goal

abbrev pub invariant-loop-i : goal.invariant-loop-i
invariant-loop-i l = PrefixTo l.a l.b l.i
