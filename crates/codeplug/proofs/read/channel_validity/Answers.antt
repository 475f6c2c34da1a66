-- The place's rule at the count; a valid place comes with all 90 bytes.
use mathlib.Core.Path.{sym, ◌∙◌}
use Rattle.codeplug.proofs.Laws.{place-valid, placed-channel}
use native.Mathlib.Omega.{arith}
use Rattle.codeplug.proofs.read.channel_validity.Goals as goal

pub returns : goal.returns
returns c =
    let a = c.args in
    let n = c.channel_count.ensures in (
      rw (c.place.ensures, n.0),
      λ g.
          let valid = sym c.place.ensures ∙ g in
          (omega (arith, (place-valid _ a.f.now a.n _ valid).below), placed-channel _ a.f.now a.n _ valid n.0),
    )
