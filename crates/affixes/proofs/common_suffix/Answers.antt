use native.Mathlib.Omega.{arith}
use Rattle.affixes.proofs.Laws.{end-stop}
use Rattle.affixes.proofs.ChunkLaws.{end-one, end-done}
use Rattle.affixes.proofs.common_suffix.Goals as goal

pub returns-then-a-i : goal.returns-then-a-i
returns-then-a-i c = end-stop c.args.a.now c.args.b.now c.loop-i.i c.loop-i.invariant.1 (omega arith) (omega arith) c.if-a-i.true

pub loop-i-preserved : goal.loop-i-preserved
loop-i-preserved c = end-one c.args.a.now c.args.b.now c.loop-i.i c.loop-i.invariant (omega arith) (omega arith) c.if-a-i.false

pub returns : goal.returns
returns c = end-done c.args.a.now c.args.b.now c.loop-i.i _ c.loop-i.invariant c.min-n.ensures (omega arith)
