-- An accepted file is short, so the offset fits; the count may grow, so the new one fits.
use Prim.Native.Nat.{◌^◌, ◌≤◌, ◌<◌}
use lib.ListN.{length}
use Rattle.layout.specs.Places.{bank_count}
use Rattle.model.proofs.PlaceLaws.{bank-behind}
use Rattle.edit_plan.proofs.PlanLaws.{insert-bank-there, insert-bank}
use native.Mathlib.Omega.{arith}
use Rattle.edit_plan.proofs.insert_bank.Goals as goal
use Rattle.edit_plan.proofs.insert_bank.Goals.{After-shared_slice_known-1}

there : (c : After-shared_slice_known-1)
    → (c.args.i ≤ bank_count c.args.f.now) × (bank_count c.args.f.now < 65535)
there c = insert-bank-there c.args.f.now (λ n. (c.type_inv.f n).fits) c.args.i 0 c.requires

short : (c : After-shared_slice_known-1) → length c.args.f.now < 2 ^ 32
short c = c.requires.0.short

pub bank_place-at-requires : goal.bank_place-at-requires
bank_place-at-requires c = (c.requires.0, omega (arith, there c))

pub overflow_sub-offset : goal.overflow_sub-offset
overflow_sub-offset c = let a = c.args in omega (arith, bank-behind a.f.now a.i)

pub overflow_cast-offset : goal.overflow_cast-offset
overflow_cast-offset c = record { fits = omega (arith, short (goal.at.overflow_cast-offset c).After-shared_slice_known-1) }

pub overflow_cast-count : goal.overflow_cast-count
overflow_cast-count c = record { fits = omega (arith, there (goal.at.overflow_cast-count c).After-shared_slice_known-1) }

pub offset_place-place-requires : goal.offset_place-place-requires
offset_place-place-requires c = omega (arith, there (goal.at.offset_place-place-requires c).After-shared_slice_known-1)

pub table_from-requires : goal.table_from-requires
table_from-requires c = omega (arith, there (goal.at.table_from-requires c).After-shared_slice_known-1)

pub returns : goal.returns
returns c =
    let o = c in
    let n = o in
    let p = n in
    let b = p in
    let s = b in
    insert-bank _ (λ n. (s.type_inv.f n).fits) _ 0 _ _ _ _ _ s.requires b.bank_place-at.ensures.0 (rw p.banks_place.ensures.0)
    (rw n.bank_count.ensures.0) o.offset_place-place.ensures.0 c.table_from.ensures
