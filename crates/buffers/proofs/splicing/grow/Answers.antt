-- The content behind is moved up and s put in front of it.
use native.Mathlib.Omega.{arith}
use Rattle.buffers.proofs.Laws.{grown}
use Rattle.buffers.proofs.splicing.grow.Goals as goal

pub returns : goal.returns
returns c =
    let e = c.args in
    grown e.d.now _ _ e.len e.p e.k e.s.now
    c.move_up.ensures
    c.put.ensures
    (omega arith) (omega arith) (omega arith) (omega arith)
