use native.Mathlib.Omega.{arith}
use lib.Seq.{length-take-le}
use Rattle.rotation.proofs.RotationLaws.{waited, few-first}
use Rattle.rotation.proofs.rotate_few_first.Goals as goal

pub returns : goal.returns
returns c =
    let d = c.args.row.now in
    let m = c.args.by in
    let kept = waited _ _ _ _ m (length-take-le m d c.requires.0) c.copy_from_slice.ensures.after c.copy_from_slice-2.ensures.after in
    few-first d _ _ m _ c.requires.0 c.copy_within.ensures.after kept (omega (arith, c.copy_within.ensures.len))
