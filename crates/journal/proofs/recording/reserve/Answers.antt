-- The run is moved up, and zeros put behind it.
use Rattle.journal.proofs.RecordLaws.{reserved}
use native.Mathlib.Omega.{arith}
use Rattle.journal.proofs.recording.reserve.Goals as goal

pub returns : goal.returns
returns c =
    let z = c in
    let m = z in
    let e = m.args in
    reserved e.d.now _ _ e.used e.n e.size _ _ m.move_up.ensures z.clear.ensures (omega arith) (omega arith) (omega arith)
