-- Nothing rotated, or one of the three ways.
use native.Mathlib.Omega.{arith}
use Rattle.rotation.proofs.RotationLaws.{rotated-none, rotated-all, rotated-part}
use Rattle.rotation.proofs.rotate.Goals as goal
use Rattle.rotation.proofs.rotate.Goals.{then-by-eq0-via-then-by-eq0, then-by-eq0-via-else-by-eq0+then-by-n}

pub returns-then-by-eq0 : goal.returns-then-by-eq0
returns-then-by-eq0 c =
    let e = c.args in
    elim c.then-by-eq0.branch [
      | then-by-eq0-via-then-by-eq0 w ↦ rotated-none e.d.now e.from e.n e.by w.if-by-eq0.true c.requires.0
      | then-by-eq0-via-else-by-eq0+then-by-n w ↦ rotated-all e.d.now e.from e.n e.by w.if-by-n.true c.requires.0
    ]

pub returns-then-by-le128 : goal.returns-then-by-le128
returns-then-by-le128 c = rotated-part _ _ _ _ _ _ c.rotate_few_first.ensures (omega arith) c.requires.1 c.requires.0

pub returns-then-n-by-le128 : goal.returns-then-n-by-le128
returns-then-n-by-le128 c = rotated-part _ _ _ _ _ _ c.rotate_few_last.ensures (omega arith) c.requires.1 c.requires.0

pub returns-else-n-by-le128 : goal.returns-else-n-by-le128
returns-else-n-by-le128 c = rotated-part _ _ _ _ _ _ c.rotate_left.ensures.after (omega arith) c.requires.1 c.requires.0
