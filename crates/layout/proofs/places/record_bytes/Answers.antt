-- By how many bytes are left at p.
use mathlib.Core.Path.{refl}
use Rattle.layout.proofs.Laws.{record-bytes-none, record-bytes-all, record-bytes-rest}
use native.Mathlib.Omega.{arith}
use Rattle.layout.proofs.places.record_bytes.Goals as goal

pub returns-then-n-p : goal.returns-then-n-p
returns-then-n-p c =
    let a = c.args in
    record-bytes-none a.f.now _ a.p a.w refl (omega arith)

pub returns-then-w-n : goal.returns-then-w-n
returns-then-w-n c =
    let a = c.args in
    record-bytes-all a.f.now a.p a.w _ refl

pub returns : goal.returns
returns c =
    let a = c.args in
    record-bytes-rest a.f.now a.p a.w (omega arith)
