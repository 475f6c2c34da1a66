use native.Mathlib.Omega.{arith}
use Rattle.affixes.proofs.ChunkLaws.{end-chunk}
use Rattle.affixes.proofs.suffix_chunks.Goals as goal

pub loop-k-preserved : goal.loop-k-preserved
loop-k-preserved c =
    end-chunk c.args.a.now c.args.b.now c.loop-k.k c.loop-k.invariant (omega (arith, c.min-n.ensures)) (omega (arith, c.min-n.ensures))
    (c.same32.ensures.agree c.if-not-same32.false)
