use Rattle.edit_check.proofs.InUse.{banks_next}
use native.Mathlib.Omega.{arith}
use Rattle.edit_check.proofs.in_use.some_holds.Goals as goal

pub loop-preserved : goal.loop-preserved
loop-preserved c =
    let l = c.loop in
    (omega arith, banks_next _ _ l.counter l.p _ _ _ _ _ (omega arith) l.invariant.1 c.entry_count.ensures.0 c.bank_holds.ensures c.if-bank_holds.false c.next_bank-p.ensures.0)
