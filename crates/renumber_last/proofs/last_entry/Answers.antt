use Rattle.renumber_last.proofs.LastLaws.{last_none, last_from, entries_last}
use Rattle.renumber.proofs.Laws.{bank-order, bank-fits, bank-none, banks_moved-none}
use Rattle.renumber.specs.Moved.{banks_moved}
use Rattle.renumber.specs.Shift.{shift_of}
use Rattle.layout.specs.Banks.{bank_from}
use Rattle.fields.specs.Bytes.{over}
use lib.ListN.{length}
use mathlib.Core.Path.{◌≡◌, sym, ap}
use Prim.Native.Nat.{ℕ, ◌+◌, ◌*◌, ◌≤◌}
use native.Mathlib.Omega.{arith}
use Rattle.renumber_last.proofs.last_entry.Goals as goal
use Rattle.renumber_last.proofs.last_entry.Goals.{After-entry_count-count}

-- the bank at p ends inside, where the next one starts
room : (c : After-entry_count-count)
    → (c.loop.p + 34 + c.entry_count-count.result * 2 ≤ length c.args.f.now)
    × (c.loop.p + (34 + c.entry_count-count.result * 2)
    ≡ bank_from c.args.f.now (c.loop.counter + 1) c.args.start)
room c =
    let l = c in
    let a = l.args in
    bank-fits a.f.now a.start a.n l.loop.counter l.loop.p c.entry_count-count.result (omega arith) l.loop.invariant.0 (omega arith) c.entry_count-count.ensures.0

pub loop-init : goal.loop-init
loop-init c =
    let a = c.args in
    (sym (bank-none a.f.now a.start), rw (banks_moved-none (shift_of a.s) a.f.now a.start) (last_none _ _ _))

pub entry_count-count-requires : goal.entry_count-count-requires
entry_count-count-requires c =
    let l = c in
    let a = l.args in
    omega (arith, bank-order a.f.now l.loop.counter a.n a.start (omega arith))

pub overflow_add-p : goal.overflow_add-p
overflow_add-p c = omega (arith, room c)

pub last_of_run-requires : goal.last_of_run-requires
last_of_run-requires c = omega (arith, room c)

pub overflow_mul-p : goal.overflow_mul-p
overflow_mul-p c = omega (arith, room (goal.at.overflow_mul-p c).After-entry_count-count)

pub overflow_add-p-in-loop : goal.overflow_add-p-in-loop
overflow_add-p-in-loop c = omega (arith, room (goal.at.overflow_add-p-in-loop c).After-entry_count-count)

pub overflow_add-p-in-loop-2 : goal.overflow_add-p-in-loop-2
overflow_add-p-in-loop-2 c = omega (arith, room (goal.at.overflow_add-p-in-loop-2 c).After-entry_count-count)

pub loop-preserved : goal.loop-preserved
loop-preserved c =
    let r = c in
    let k = r in
    let l = k in
    let a = l.args in
    let next = entries_last (shift_of a.s) a.f.now a.start l.loop.counter l.loop.p k.entry_count-count.result l.loop.last r.last_of_run.result c.or-last.result (λ i. (l.type_inv.f i).fits) l.loop.invariant.0 (room (goal.at.loop-preserved c).After-entry_count-count).0 k.entry_count-count.ensures.0 l.loop.invariant.1 r.last_of_run.ensures c.or-last.ensures in
    ((room (goal.at.loop-preserved c).After-entry_count-count).1, next)

pub returns : goal.returns
returns c =
    let l = c.loop in
    let a = c.args in
    let e : l.counter ≡ a.n = omega arith in
    last_from _ _ _ _ _ _ _ (omega arith) (ap (λ (k : ℕ). over a.f.now a.start (banks_moved (shift_of a.s) a.f.now k a.start)) e) l.invariant.1
