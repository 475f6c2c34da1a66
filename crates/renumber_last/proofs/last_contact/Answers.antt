use mathlib.Core.Path.{refl}
use native.Mathlib.Omega.{arith}
use Rattle.renumber.specs.Shift.{shift_of}
use Rattle.renumber_last.proofs.LastLaws.{contacts_last}
use Rattle.renumber_last.proofs.last_contact.Goals as goal

pub loop-i-preserved : goal.loop-i-preserved
loop-i-preserved c =
    let l = c.loop-i in
    let a = c.args in
    contacts_last (shift_of a.s) a.f.now a.start l.i _ l.last c.last_of_channel.result c.or-last.result refl (omega arith) l.invariant c.last_of_channel.ensures c.or-last.ensures
