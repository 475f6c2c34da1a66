-- The content behind is moved down, s put in front of it, and zeros behind it.
use native.Mathlib.Omega.{arith}
use Rattle.buffers.proofs.Laws.{shrunk}
use Rattle.buffers.proofs.splicing.shrink.Goals as goal

pub returns : goal.returns
returns c =
    let e = c.args in
    shrunk e.d.now _ _ _ e.len e.p e.k e.s.now
    c.move_down.ensures
    c.put.ensures
    c.clear.ensures
    (omega arith) (omega arith) (omega arith)
