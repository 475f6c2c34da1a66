-- What follows is moved down, and zeros put behind it.
use Rattle.undo.proofs.UndoLaws.{dropped}
use native.Mathlib.Omega.{arith}
use Rattle.undo.proofs.drop_front.Goals as goal

pub returns : goal.returns
returns c =
    let e = c.args in
    dropped e.d.now _ _ e.used e.n c.move_down.ensures c.clear.ensures (omega arith) (omega arith)
