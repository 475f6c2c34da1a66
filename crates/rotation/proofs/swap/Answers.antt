use Prim.Native.Nat.{◌+◌, ◌-◌}
use mathlib.Core.Path.{◌≡◌, sym, ◌∙◌}
use native.Mathlib.Omega.{arith}
use Rattle.fields.specs.Bytes.{part}
use Rattle.fields.proofs.Laws.{written_part, length_part}
use Rattle.rotation.proofs.swap.Goals as goal

pub returns : goal.returns
returns c =
    let e = c.args in
    let i : e.i + e.n - e.i ≡ e.n = omega arith in
    let j : e.j + e.n - e.j ≡ e.n = omega arith in
    let f = length_part e.a.now e.i e.n c.requires.0 in
    let g = length_part e.b.now e.j e.n c.requires.1 in (
      written_part _ _ (part e.b.now e.j e.n) _ _ (rw j at c.swap_with_slice.ensures.after) (i ∙ sym g),
      written_part _ _ (part e.a.now e.i e.n) _ _ (rw i at c.swap_with_slice.ensures.other_after) (j ∙ sym f),
    )
