-- The offsets move inside the content; then a cut and its count.
use native.Mathlib.Omega.{arith}
use Rattle.plan.specs.declared.Plan.TheVariants.{Entries}
use Rattle.plan.specs.Fits.{Fits}
use Rattle.plan_apply.proofs.MakeLaws.{LentReady, entries-ready, long-take}
use Rattle.plan_apply.proofs.make_entries.Goals as goal
use Rattle.plan_apply.proofs.make_entries.Goals.{After-move_offsets}

-- the buffer once the offsets have moved
moved : (c : After-move_offsets)
    → (let e = c.args in
    LentReady (Entries e.t e.c) e.c e.r.now e.d.now e.len c.move_offsets.new.d)
moved c =
    let s = c in
    entries-ready s.args.t s.args.c s.args.r.now s.args.d.now s.args.len _ s.requires c.move_offsets.ensures

pub move_offsets-requires : goal.move_offsets-requires
unfolding Fits
move_offsets-requires c = (omega arith, omega arith)

pub slice_bounds-move_offsets-end-2 : goal.slice_bounds-move_offsets-end-2
slice_bounds-move_offsets-end-2 c =
    long-take _ _ c.requires.1.0

pub make_counted-requires : goal.make_counted-requires
make_counted-requires c =
    (moved (goal.at.make_counted-requires c).After-move_offsets).room

pub returns : goal.returns
returns c =
    (moved (goal.at.returns c).After-move_offsets).made _ c.make_counted.ensures
