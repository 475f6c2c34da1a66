-- The whole chunks that agree, then the bytes beyond them one at a time.
use native.Mathlib.Omega.{arith}
use Rattle.affixes.proofs.Laws.{start-stop}
use Rattle.affixes.proofs.ChunkLaws.{front, front-more, front-done}
use Rattle.affixes.proofs.common_prefix.Goals as goal

pub loop-i-init : goal.loop-i-init
loop-i-init c = front c.args.a.now c.args.b.now c.as_chunks.ensures.front c.as_chunks-2.ensures.front c.equal_front-i.ensures

pub overflow_step-i : goal.overflow_step-i
overflow_step-i c =
    let p = front c.args.a.now c.args.b.now c.as_chunks.ensures.front c.as_chunks-2.ensures.front c.equal_front-i.ensures in
    omega (arith, p.left)

pub returns-then-a-i : goal.returns-then-a-i
returns-then-a-i c =
    start-stop c.args.a.now c.args.b.now c.loop-i.i c.loop-i.invariant.goes (omega arith) (omega arith) c.if-a-i.true

pub loop-i-preserved : goal.loop-i-preserved
loop-i-preserved c = front-more c.loop-i.invariant (omega arith) (omega arith) c.if-a-i.false

pub returns : goal.returns
returns c = front-done c.loop-i.invariant c.min-n.ensures (omega arith)
