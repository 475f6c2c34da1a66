use native.Mathlib.Omega.{arith}
use mathlib.Core.Path.{refl}
use Rattle.affixes.proofs.Laws.{same_more, same-all}
use Rattle.affixes.proofs.same32.Goals as goal

pub loop-k-init : goal.loop-k-init
loop-k-init c = λ _. refl

pub loop-k-preserved : goal.loop-k-preserved
loop-k-preserved c =
    let e = c.args in
    let l = c.loop-k in
    same_more e.a.now e.b.now e.i e.j l.k l.differ l.invariant (omega arith) (omega arith)

pub returns : goal.returns
returns c =
    let e = c.args in
    let l = c.loop-k in
    record { agree = same-all e.a.now e.b.now e.i e.j 32 l.k l.differ l.invariant (omega arith) }
