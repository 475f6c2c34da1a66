-- Bank entries move inside the content; then a cut and its count.
use native.Mathlib.Omega.{arith}
use lib.ListN.{take}
use Rattle.plan.specs.declared.Plan.TheVariants.{Channels}
use Rattle.plan.specs.Fits.{Fits}
use Rattle.plan_apply.proofs.MakeLaws.{LentReady, channels-ready, long-take}
use Rattle.plan.proofs.Laws.{banks-inside}
use Rattle.plan_apply.proofs.make_channels.Goals as goal
use Rattle.plan_apply.proofs.make_channels.Goals.{After-move_entries}

-- the buffer once the indexes have moved
moved : (c : After-move_entries)
    → (let e = c.args in
    LentReady (Channels e.s e.c) e.c e.r.now e.d.now e.len c.move_entries.new.d)
moved c =
    let s = c in
    channels-ready s.args.s s.args.c s.args.r.now s.args.d.now s.args.len _ _ _ s.requires
    (λ i. (c.slice_known-1.given i).fits)
    c.banks_place-start.ensures.0 c.bank_count-n.ensures.0 c.move_entries.ensures

pub move_entries-requires : goal.move_entries-requires
unfolding Fits
move_entries-requires c =
    let s = c in
    let l = long-take s.args.len s.args.d.now s.requires.1.0.0 in (
      (
        banks-inside (take s.args.len s.args.d.now) _ _ c.banks_place-start.ensures.0 c.bank_count-n.ensures.0
            s.requires.0.1.0,
        omega arith,
      ),
      omega arith,
    )

pub slice_bounds-banks_place-end-2 : goal.slice_bounds-banks_place-end-2
slice_bounds-banks_place-end-2 c =
    long-take _ _ c.requires.1.0.0

pub slice_bounds-bank_count-end-2 : goal.slice_bounds-bank_count-end-2
slice_bounds-bank_count-end-2 c =
    long-take _ _ c.requires.1.0.0

pub slice_bounds-move_entries-end-2 : goal.slice_bounds-move_entries-end-2
slice_bounds-move_entries-end-2 c =
    long-take _ _ c.requires.1.0.0

pub make_counted-requires : goal.make_counted-requires
make_counted-requires c =
    (moved (goal.at.make_counted-requires c).After-move_entries).room

pub returns : goal.returns
returns c =
    (moved (goal.at.returns c).After-move_entries).made _ c.make_counted.ensures
