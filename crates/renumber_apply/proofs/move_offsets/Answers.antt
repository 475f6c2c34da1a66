use Rattle.renumber.proofs.Laws.{offsets-step}
use Rattle.renumber.specs.Moved.{offsets_moved}
use Rattle.renumber.specs.Shift.{growth_of}
use Rattle.fields.proofs.Laws.{over_none}
use mathlib.Core.Path.{refl}
use native.Mathlib.Omega.{arith}
use Rattle.renumber_apply.proofs.move_offsets.Goals as goal

pub loop-i-init : goal.loop-i-init
unfolding offsets_moved
loop-i-init c = (refl, over_none _ _)

pub loop-i-preserved : goal.loop-i-preserved
loop-i-preserved c =
    let w = c in
    let l = w in
    let a = l.args in
    let put = rw (w.grown.ensures, w.le32.ensures) at w.put_le32.ensures in
    let next = offsets-step (growth_of a.g) a.d.now l.loop-i.d _ a.start l.loop-i.i _ refl (omega arith) l.loop-i.invariant.1 put in
    (omega arith, next)
