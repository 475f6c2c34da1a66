-- Below the count the record's own validity, which is valid only of all 39 bytes.
use mathlib.Core.Path.{sym, ◌∙◌}
use Prim.Native.Nat.{◌<◌}
use Rattle.layout.specs.Places.{contact_count}
use Rattle.file_rule.proofs.Laws.{contact-whole}
use Rattle.codeplug.proofs.Laws.{place_below}
use native.Mathlib.Omega.{arith}
use Rattle.prevalidated.proofs.contact_validity.Goals as goal

pub returns : goal.returns
returns c =
    let e = c in
    let a = e.args in
    let h : a.n < contact_count a.f.now = omega arith in
    let p = e.contact_place.ensures.0 in (
      rw (c.contact_at.ensures, p, place_below a.n (contact_count a.f.now) _ h),
      λ g. (omega arith, rw (← p) (contact-whole _ _ e.contact_place.result (sym c.contact_at.ensures ∙ g))),
    )
