use Prim.Native.Nat.{◌-◌}
use mathlib.Core.Path.{◌∙◌}
use native.Mathlib.Omega.{arith}
use lib.ListN.{length, drop, length-drop}
use lib.Seq.{take_all}
use Rattle.rotation.proofs.RotationLaws.{waited, few-last}
use Rattle.rotation.proofs.rotate_few_last.Goals as goal

pub returns : goal.returns
returns c =
    let d = c.args.row.now in
    let m = c.args.by in
    let l = length-drop m d in
    let all = take_all (length d - m) (drop m d) (omega (arith, l)) in
    let kept = waited _ _ _ _ (length d - m) l (c.copy_from_slice.ensures.after ∙ all) c.copy_from_slice-2.ensures.after in
    few-last d _ _ m c.requires.0 c.copy_within.ensures.after kept
