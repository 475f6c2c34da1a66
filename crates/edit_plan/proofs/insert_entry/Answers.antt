-- The bank is there with its entries, and the count may grow.
use Prim.Native.Nat.{◌^◌, ◌≤◌, ◌<◌}
use mathlib.Core.Path.{◌≡◌, refl, ◌∙◌}
use lib.ListN.{length}
use Rattle.layout.specs.Places.{bank_count}
use Rattle.layout.specs.Banks.{entry_count, bank_place}
use Rattle.layout.proofs.Laws.{bank_count-lt}
use Rattle.edit_plan.proofs.PlanLaws.{insert-entry-there, insert_entry}
use native.Mathlib.Omega.{arith}
use Rattle.edit_plan.proofs.insert_entry.Goals as goal
use Rattle.edit_plan.proofs.insert_entry.Goals.{After-entry_count, After-shared_slice_known-1}

there : (c : After-shared_slice_known-1) →
    let a = c.args in
    let n = entry_count a.f.now (bank_place a.f.now a.i) in
    (a.i < bank_count a.f.now) × ((a.j ≤ n) × (n < 65535))
there c = insert-entry-there c.args.f.now (λ n. (c.type_inv.f n).fits) c.args.i c.args.j c.requires

short : (c : After-shared_slice_known-1) → length c.args.f.now < 2 ^ 32
short c = c.requires.0.short

counted : (c : After-entry_count) →
    let a = c.args in
    c.entry_count.result ≡ entry_count a.f.now (bank_place a.f.now a.i)
counted c = c.entry_count.ensures.0 ∙ rw c.bank_place-bank.ensures.0

pub bank_place-bank-requires : goal.bank_place-bank-requires
bank_place-bank-requires c = (c.requires.0, omega (arith, there c))

pub entry_count-requires : goal.entry_count-requires
entry_count-requires c = omega (arith, short (goal.at.entry_count-requires c).After-shared_slice_known-1)

pub overflow_cast-count : goal.overflow_cast-count
overflow_cast-count c = record { fits = omega (arith, there (goal.at.overflow_cast-count c).After-shared_slice_known-1, counted c) }

pub overflow_add-i : goal.overflow_add-i
overflow_add-i c =
    let s = c in
    omega (arith, there (goal.at.overflow_add-i s).After-shared_slice_known-1, bank_count-lt s.args.f.now (λ n. (s.type_inv.f n).fits))

pub table_from-requires : goal.table_from-requires
table_from-requires c = omega (arith, there (goal.at.table_from-requires c).After-shared_slice_known-1)

pub overflow_mul-result : goal.overflow_mul-result
overflow_mul-result c = omega (arith, there (goal.at.overflow_mul-result c).After-shared_slice_known-1)

pub overflow_add-result-3 : goal.overflow_add-result-3
overflow_add-result-3 c = omega (arith, there (goal.at.overflow_add-result-3 c).After-shared_slice_known-1, short (goal.at.overflow_add-result-3 c).After-shared_slice_known-1)

pub returns : goal.returns
returns c =
    let k = c in
    let b = k in
    let s = b in
    insert_entry _ (λ n. (s.type_inv.f n).fits) _ _ _ _ _ _ s.requires b.bank_place-bank.ensures.0 (rw k.entry_count.ensures.0) refl
    c.table_from.ensures
