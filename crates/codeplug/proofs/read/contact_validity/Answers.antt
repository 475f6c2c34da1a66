-- The place's rule at the count; a valid place comes with all 39 bytes.
use mathlib.Core.Path.{sym, ◌∙◌}
use Rattle.codeplug.proofs.Laws.{place-valid, placed-contact}
use native.Mathlib.Omega.{arith}
use Rattle.codeplug.proofs.read.contact_validity.Goals as goal

pub returns : goal.returns
returns c =
    let a = c.args in
    let n = c.contact_count.ensures in (
      rw (c.place.ensures, n.0),
      λ g.
          let valid = sym c.place.ensures ∙ g in
          (omega (arith, (place-valid _ a.f.now a.n _ valid).below), placed-contact _ a.f.now a.n _ valid n.0),
    )
