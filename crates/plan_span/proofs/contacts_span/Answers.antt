-- The last contact index that moves ends the change; where none does, the cut alone is measured.
use native.Mathlib.Omega.{arith}
use mathlib.Core.Path.{ap, ◌∙◌}
use Rattle.plan.specs.declared.Plan.TheVariants.{Contacts}
use Rattle.plan.specs.Plan.{planned}
use Rattle.plan.specs.Fits.{Fits}
use Rattle.renumber.specs.Shift.{shift_of}
use Rattle.plan_span.proofs.RenumberedLaws.{Renumbered, contacts-follow}
use Rattle.plan_span.proofs.contacts_span.Goals as goal
use Rattle.plan_span.proofs.contacts_span.Goals.{After-last_contact}

pub last_contact-requires : goal.last_contact-requires
unfolding Fits
last_contact-requires c = (omega arith, omega arith)

last : (c : After-last_contact)
    → (let e = c.args in
    Renumbered e.s e.c e.r.now e.f.now (planned (Contacts e.s e.c) e.r.now e.f.now) c.last_contact.result)
last c =
    let s = c in
    contacts-follow s.args.s s.args.c s.args.r.now s.args.f.now _ _ _ c.channel_place.ensures.0
    c.channel_count.ensures.0 c.last_contact.ensures s.requires (λ i. (c.type_inv.f i).fits)

pub apart_span-requires : goal.apart_span-requires
apart_span-requires c =
    let w = last (goal.at.apart_span-requires c).After-last_contact in
    let e = c.in-Some.is in
    (w.fits _ e, w.inside _ e)

pub returns-in-Some : goal.returns-in-Some
returns-in-Some c =
    (last (goal.at.returns-in-Some c).After-last_contact).span _ _ _ c.in-Some.is
    (c.shifted.ensures ∙ ap (shift_of _) c.le16.ensures) c.apart_span.ensures

pub counted_span-requires : goal.counted_span-requires
counted_span-requires c =
    (last (goal.at.counted_span-requires c).After-last_contact).whole

pub le16-requires : goal.le16-requires
le16-requires c =
    omega (arith, (last (goal.at.le16-requires c).After-last_contact).inside _ c.in-Some.is)

pub returns-in-None : goal.returns-in-None
returns-in-None c =
    rw ((last (goal.at.returns-in-None c).After-last_contact).none c.in-None.is) c.counted_span.ensures
