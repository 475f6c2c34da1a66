-- The text over zeros.
use native.Mathlib.Omega.{arith}
use mathlib.Core.Path.{◌∙◌}
use Rattle.fields.specs.Bytes.{zeros}
use Rattle.text.proofs.Laws.{given_ok-length}
use Rattle.text_writer.proofs.Laws.{text-first}
use Rattle.text_writer.proofs.field_bytes.Goals as goal

pub put-requires : goal.put-requires
put-requires c = omega (arith, given_ok-length _ c.requires)

pub returns : goal.returns
unfolding zeros
returns c =
    let p = c in
    p.put.ensures ∙ text-first _ p.requires
