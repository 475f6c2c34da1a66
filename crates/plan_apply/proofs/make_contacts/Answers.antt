-- Contact indexes move inside the content; then a cut and its count.
use native.Mathlib.Omega.{arith}
use Rattle.plan.specs.declared.Plan.TheVariants.{Contacts}
use Rattle.plan.specs.Fits.{Fits}
use Rattle.plan_apply.proofs.MakeLaws.{LentReady, contacts-ready, long-take}
use Rattle.plan_apply.proofs.make_contacts.Goals as goal
use Rattle.plan_apply.proofs.make_contacts.Goals.{After-move_contacts}

-- the buffer once the indexes have moved
moved : (c : After-move_contacts)
    → (let e = c.args in
    LentReady (Contacts e.s e.c) e.c e.r.now e.d.now e.len c.move_contacts.new.d)
moved c =
    let s = c in
    contacts-ready s.args.s s.args.c s.args.r.now s.args.d.now s.args.len _ _ _ s.requires
    c.channel_place-start.ensures.0 c.channel_count-n.ensures.0 c.move_contacts.ensures

pub move_contacts-requires : goal.move_contacts-requires
unfolding Fits
move_contacts-requires c = (omega arith, omega arith)

pub slice_bounds-channel_place-end-2 : goal.slice_bounds-channel_place-end-2
slice_bounds-channel_place-end-2 c =
    long-take _ _ c.requires.1.0

pub slice_bounds-channel_count-end-2 : goal.slice_bounds-channel_count-end-2
slice_bounds-channel_count-end-2 c =
    long-take _ _ c.requires.1.0

pub slice_bounds-move_contacts-end-2 : goal.slice_bounds-move_contacts-end-2
slice_bounds-move_contacts-end-2 c =
    long-take _ _ c.requires.1.0

pub make_counted-requires : goal.make_counted-requires
make_counted-requires c =
    (moved (goal.at.make_counted-requires c).After-move_contacts).room

pub returns : goal.returns
returns c =
    (moved (goal.at.returns c).After-move_contacts).made _ c.make_counted.ensures
