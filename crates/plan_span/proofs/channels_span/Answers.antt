-- The last bank entry that moves ends the change; where none does, the cut alone is measured.
use native.Mathlib.Omega.{arith}
use mathlib.Core.Path.{ap, ◌∙◌}
use Rattle.plan.specs.declared.Plan.TheVariants.{Channels}
use Rattle.plan.specs.Plan.{planned}
use Rattle.plan.specs.Fits.{Fits}
use Rattle.renumber.specs.Shift.{shift_of}
use Rattle.plan.proofs.Laws.{banks-inside}
use Rattle.plan_span.proofs.RenumberedLaws.{Renumbered, entries-follow}
use Rattle.plan_span.proofs.channels_span.Goals as goal
use Rattle.plan_span.proofs.channels_span.Goals.{After-last_entry}

pub last_entry-requires : goal.last_entry-requires
unfolding Fits
last_entry-requires c =
    let s = c in
    ((banks-inside s.args.f.now _ _ c.banks_place.ensures.0 c.bank_count.ensures.0 s.requires.0.1.0, s.requires.1), omega arith)

last : (c : After-last_entry)
    → (let e = c.args in
    Renumbered e.s e.c e.r.now e.f.now (planned (Channels e.s e.c) e.r.now e.f.now) c.last_entry.result)
last c =
    let s = c in
    entries-follow s.args.s s.args.c s.args.r.now s.args.f.now _ _ _ c.banks_place.ensures.0
    c.bank_count.ensures.0 c.last_entry.ensures s.requires.0 (λ i. (c.type_inv.f i).fits)

pub apart_span-requires : goal.apart_span-requires
apart_span-requires c =
    let w = last (goal.at.apart_span-requires c).After-last_entry in
    let e = c.in-Some.is in
    (w.fits _ e, w.inside _ e)

pub returns-in-Some : goal.returns-in-Some
returns-in-Some c =
    (last (goal.at.returns-in-Some c).After-last_entry).span _ _ _ c.in-Some.is
    (c.shifted.ensures ∙ ap (shift_of _) c.le16.ensures) c.apart_span.ensures

pub counted_span-requires : goal.counted_span-requires
counted_span-requires c =
    (last (goal.at.counted_span-requires c).After-last_entry).whole

pub le16-requires : goal.le16-requires
le16-requires c =
    omega (arith, (last (goal.at.le16-requires c).After-last_entry).inside _ c.in-Some.is)

pub returns-in-None : goal.returns-in-None
returns-in-None c =
    rw ((last (goal.at.returns-in-None c).After-last_entry).none c.in-None.is) c.counted_span.ensures
