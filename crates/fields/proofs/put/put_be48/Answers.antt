-- The low six of the number's eight bytes.
use Prim.Native.Nat.{ℕ}
use mathlib.Core.Path.{ap, ◌∙◌}
use mathlib.Core.List.{List}
use Rattle.fields.specs.Bytes.{over}
use Rattle.fields.proofs.Laws.{to_be-big}
use Rattle.fields.proofs.put.put_be48.Goals as goal

pub returns : goal.returns
returns c =
    let e = c.args in
    rw c.to_be_bytes.ensures at c.put.ensures ∙ ap (λ (l : List ℕ). over e.dst.now e.k l) (to_be-big 6 e.x)
