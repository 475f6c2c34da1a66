-- The bank is there, so the count of banks is not zero.
use Prim.Native.Nat.{◌^◌, ◌<◌}
use lib.ListN.{length}
use Rattle.layout.specs.Places.{bank_count}
use Rattle.edit_plan.proofs.PlanLaws.{remove-bank-there, remove-bank}
use native.Mathlib.Omega.{arith}
use Rattle.edit_plan.proofs.remove_bank.Goals as goal
use Rattle.edit_plan.proofs.remove_bank.Goals.{After-shared_slice_known-1}

there : (c : After-shared_slice_known-1)
    → (c.args.i < bank_count c.args.f.now) × (bank_count c.args.f.now < 65536)
there c = remove-bank-there c.args.f.now (λ n. (c.type_inv.f n).fits) c.args.i 0 c.requires

short : (c : After-shared_slice_known-1) → length c.args.f.now < 2 ^ 32
short c = c.requires.0.short

pub bank_place-at-requires : goal.bank_place-at-requires
bank_place-at-requires c = (c.requires.0, omega (arith, there c))

pub entry_count-requires : goal.entry_count-requires
entry_count-requires c = omega (arith, short (goal.at.entry_count-requires c).After-shared_slice_known-1)

pub overflow_sub-count : goal.overflow_sub-count
overflow_sub-count c = omega (arith, there (goal.at.overflow_sub-count c).After-shared_slice_known-1)

pub offset_place-place-requires : goal.offset_place-place-requires
offset_place-place-requires c = omega (arith, there (goal.at.offset_place-place-requires c).After-shared_slice_known-1)

pub overflow_add-i : goal.overflow_add-i
overflow_add-i c = omega (arith, there (goal.at.overflow_add-i c).After-shared_slice_known-1)

pub table_from-requires : goal.table_from-requires
table_from-requires c = omega (arith, there (goal.at.table_from-requires c).After-shared_slice_known-1)

pub returns : goal.returns
returns c =
    let o = c in
    let n = o in
    let k = n in
    let b = k in
    let s = b in
    remove-bank _ (λ n. (s.type_inv.f n).fits) _ 0 _ _ _ _ _ s.requires b.bank_place-at.ensures.0 (rw k.entry_count.ensures.0)
    (rw n.bank_count.ensures.0) o.offset_place-place.ensures.0 c.table_from.ensures
