-- The splice is a cut of the content, and the count is written inside it.
use Rattle.plan_apply.proofs.MakeLaws.{made_counted}
use native.Mathlib.Omega.{arith}
use Rattle.plan_apply.proofs.make_counted.Goals as goal

pub returns : goal.returns
returns c =
    let e = c.args in
    made_counted e.d.now _ _ e.len e.c e.r.now
    c.splice.ensures
    c.put_le16.ensures
    (omega arith) (omega arith) (omega arith) (omega arith)
