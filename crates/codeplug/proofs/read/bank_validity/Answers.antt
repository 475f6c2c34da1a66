-- The place's rule at the count; at a valid place the offset leads to the bank, with its 34 bytes.
use mathlib.Core.Path.{sym, ◌∙◌}
use Rattle.codeplug.proofs.Laws.{place-valid, placed-leads, placed-bank}
use native.Mathlib.Omega.{arith}
use Rattle.codeplug.proofs.read.bank_validity.Goals as goal

pub returns : goal.returns
returns c =
    let a = c.args in
    let f = a.f.now in
    let n = c.bank_count.ensures in (
      rw (c.place.ensures, n.0),
      λ g.
          let valid = sym c.place.ensures ∙ g in
          ((omega (arith, (place-valid _ f a.n _ valid).below), placed-bank _ f a.n _ valid n.0), placed-leads _ f a.n _ valid n.0),
    )
