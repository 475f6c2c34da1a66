use Rattle.renumber.proofs.Laws.{bank-order, entries_fit, entries-step, bank-none, banks_moved-none}
use Rattle.renumber.specs.Shift.{shift_of}
use Rattle.layout.specs.Banks.{bank_from}
use Rattle.fields.proofs.Laws.{over_none}
use lib.ListN.{length}
use mathlib.Core.Path.{◌≡◌, sym}
use Prim.Native.Nat.{◌+◌, ◌*◌, ◌≤◌}
use native.Mathlib.Omega.{arith}
use Rattle.renumber_apply.proofs.move_entries.Goals as goal
use Rattle.renumber_apply.proofs.move_entries.Goals.{After-entry_count-count}

-- the bank at p ends inside, where the next one starts
room : (c : After-entry_count-count)
    → (c.loop.p + 34 + c.entry_count-count.result * 2 ≤ length c.args.d.now)
    × (c.loop.p + (34 + c.entry_count-count.result * 2)
    ≡ bank_from c.args.d.now (c.loop.counter + 1) c.args.start)
room c =
    let l = c in
    let a = l.args in
    entries_fit (shift_of a.s) a.d.now l.loop.d a.start a.n l.loop.counter l.loop.p (λ i. (l.slice_known-1.given i).fits) (omega arith) l.loop.invariant.0 (omega arith) l.loop.invariant.1.1 c.entry_count-count.result c.entry_count-count.ensures.0

pub loop-init : goal.loop-init
loop-init c =
    let a = c.args in
    (sym (bank-none a.d.now a.start), (omega arith, rw (banks_moved-none (shift_of a.s) a.d.now a.start) (over_none a.d.now a.start)))

pub entry_count-count-requires : goal.entry_count-count-requires
entry_count-count-requires c =
    let l = c in
    let a = l.args in
    omega (arith, bank-order a.d.now l.loop.counter a.n a.start (omega arith))

pub overflow_add-p : goal.overflow_add-p
overflow_add-p c = omega (arith, room (goal.at.overflow_add-p c).After-entry_count-count)

pub move_run-requires : goal.move_run-requires
move_run-requires c = omega (arith, room (goal.at.move_run-requires c).After-entry_count-count)

pub overflow_mul-p : goal.overflow_mul-p
overflow_mul-p c = omega (arith, room (goal.at.overflow_mul-p c).After-entry_count-count)

pub overflow_add-p-in-loop : goal.overflow_add-p-in-loop
overflow_add-p-in-loop c = omega (arith, room (goal.at.overflow_add-p-in-loop c).After-entry_count-count)

pub overflow_add-p-in-loop-2 : goal.overflow_add-p-in-loop-2
overflow_add-p-in-loop-2 c = omega (arith, room (goal.at.overflow_add-p-in-loop-2 c).After-entry_count-count)

pub loop-preserved : goal.loop-preserved
loop-preserved c =
    let k = c in
    let l = k in
    let a = l.args in
    let turned = entries-step (shift_of a.s) a.d.now l.loop.d a.start a.n l.loop.counter l.loop.p (λ i. (l.slice_known-1.given i).fits) (omega arith) l.loop.invariant.0 (omega arith) l.loop.invariant.1.1 _ k.entry_count-count.result (omega arith) k.entry_count-count.ensures.0 c.move_run.ensures in
    ((room (goal.at.loop-preserved c).After-entry_count-count).1, (omega arith, turned))
