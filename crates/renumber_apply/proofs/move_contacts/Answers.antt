use Rattle.renumber.proofs.Laws.{contacts-step}
use Rattle.model.specs.Codeplug.{blocks, joined}
use Rattle.renumber.specs.Moved.{channels_moved}
use Rattle.renumber.specs.Shift.{shift_of}
use Rattle.fields.proofs.Laws.{over_none}
use mathlib.Core.Path.{refl}
use native.Mathlib.Omega.{arith}
use Rattle.renumber_apply.proofs.move_contacts.Goals as goal

pub loop-i-init : goal.loop-i-init
unfolding channels_moved blocks joined
loop-i-init c = (refl, over_none _ _)

pub loop-i-preserved : goal.loop-i-preserved
loop-i-preserved c =
    let l = c in
    let a = l.args in
    let next = contacts-step (shift_of a.s) a.d.now l.loop-i.d _ a.start l.loop-i.i _ refl (omega arith) l.loop-i.invariant.1 c.move_contact.ensures in
    (omega arith, next)
