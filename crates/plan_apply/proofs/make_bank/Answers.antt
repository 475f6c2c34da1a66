-- The offsets move inside the content, the bank is put in, then its offset and the count.
use native.Mathlib.Omega.{arith}
use Prim.Native.Nat.{◌+◌}
use lib.ListN.{take}
use Rattle.plan.specs.declared.Plan.TheVariants.{AddBank}
use Rattle.plan.specs.Plan.{planned}
use Rattle.plan.specs.Fits.{Fits}
use Rattle.plan_apply.proofs.MakeLaws.{TableReady, Ready, bank-moved, bank-ready, long-take}
use Rattle.plan_apply.proofs.make_bank.Goals as goal
use Rattle.plan_apply.proofs.make_bank.Goals.{After-move_offsets, After-splice}

-- the buffer once the offsets have moved
moved : (c : After-move_offsets)
    → (let e = c.args in
    TableReady e.t e.d.now e.len c.move_offsets.new.d e.at 0 c.empty_bank-bank.result)
moved c =
    let s = c in
    bank-moved s.args.t s.args.at s.args.offset s.args.c s.args.r.now s.args.d.now s.args.len _ _ s.requires
    c.move_offsets.ensures c.empty_bank-bank.ensures

-- and once the bank is put in
banked : (c : After-splice)
    → (let e = c.args in
    Ready e.c c.bytes32-bytes.result e.d.now e.len c.splice.new.d (e.len + 34)
    (planned (AddBank e.t e.at e.offset e.c) e.r.now (take e.len e.d.now)))
banked c =
    let b = c in
    let s = b in
    bank-ready s.args.t s.args.at s.args.offset s.args.c s.args.r.now s.args.d.now s.args.len _ _ _ _ s.requires
    (moved (goal.at.After-splice c).After-move_offsets).held c.splice.ensures b.empty_bank-bank.ensures b.bytes32-bytes.ensures

pub slice_bounds-move_offsets-end-2 : goal.slice_bounds-move_offsets-end-2
unfolding Fits
slice_bounds-move_offsets-end-2 c =
    long-take _ _ (omega arith)

pub move_offsets-requires : goal.move_offsets-requires
unfolding Fits
move_offsets-requires c =
    (omega arith, c.requires.0.1.0.few)

pub splice-requires : goal.splice-requires
unfolding Fits
splice-requires c =
    (moved (goal.at.splice-requires c).After-move_offsets).room

pub make_counted-requires : goal.make_counted-requires
unfolding Fits
make_counted-requires c =
    (banked (goal.at.make_counted-requires c).After-splice).room

pub returns : goal.returns
unfolding Fits
returns c =
    (banked (goal.at.returns c).After-splice).made _ c.make_counted.ensures
