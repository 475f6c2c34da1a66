-- The offsets move inside the content, the bank goes, then its offset, and the count is written.
use native.Mathlib.Omega.{arith}
use Prim.Native.Nat.{◌-◌}
use lib.ListN.{take}
use Rattle.plan.specs.declared.Plan.TheVariants.{DropBank}
use Rattle.plan.specs.Plan.{planned}
use Rattle.plan.specs.Fits.{Fits}
use Rattle.plan_apply.proofs.MakeLaws.{TableReady, Ready, drop-moved, drop-ready, long-take}
use Rattle.plan_apply.proofs.drop_bank.Goals as goal
use Rattle.plan_apply.proofs.drop_bank.Goals.{After-move_offsets, After-splice}

-- the buffer once the offsets have moved
moved : (c : After-move_offsets)
    → (let e = c.args in
    TableReady e.t e.d.now e.len c.move_offsets.new.d e.b.at e.b.size e.r.now)
moved c =
    let s = c in
    drop-moved s.args.t s.args.b s.args.c s.args.r.now s.args.d.now s.args.len _ s.requires c.move_offsets.ensures

-- and once the bank has gone
gone : (c : After-splice)
    → (let e = c.args in
    Ready e.c e.r.now e.d.now e.len c.splice.new.d (e.len - e.b.size)
    (planned (DropBank e.t e.b e.c) e.r.now (take e.len e.d.now)))
gone c =
    let s = c in
    drop-ready s.args.t s.args.b s.args.c s.args.r.now s.args.d.now s.args.len _ _ s.requires
    (moved (goal.at.After-splice c).After-move_offsets).held c.splice.ensures

pub slice_bounds-move_offsets-end-2 : goal.slice_bounds-move_offsets-end-2
unfolding Fits
slice_bounds-move_offsets-end-2 c =
    long-take _ _ c.requires.1

pub move_offsets-requires : goal.move_offsets-requires
unfolding Fits
move_offsets-requires c =
    (omega arith, c.requires.0.1.0.few)

pub splice-requires : goal.splice-requires
unfolding Fits
splice-requires c =
    (moved (goal.at.splice-requires c).After-move_offsets).room

pub overflow_sub-len : goal.overflow_sub-len
unfolding Fits
overflow_sub-len c =
    omega (arith, (moved (goal.at.overflow_sub-len c).After-move_offsets).room.0.0)

pub make_counted-requires : goal.make_counted-requires
unfolding Fits
make_counted-requires c =
    (gone (goal.at.make_counted-requires c).After-splice).room

pub returns : goal.returns
unfolding Fits
returns c =
    (gone (goal.at.returns c).After-splice).made _ c.make_counted.ensures
