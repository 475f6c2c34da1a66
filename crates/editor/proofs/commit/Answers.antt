-- The entry is recorded while the old bytes still stand, then the change is made.
use mathlib.Core.Path.{◌≡◌, refl, ap}
use Rattle.plan.specs.Plan.{planned}
use lib.ListN.{take, drop}
use Prim.Native.Nat.{ℕ, ◌+◌, ◌-◌}
use Rattle.editor.proofs.EditLaws.{Changes, changes, change-made}
use native.Mathlib.Omega.{arith}
use Rattle.editor.proofs.commit.Goals as goal
use Rattle.editor.proofs.commit.Goals.{Start}

-- the change, at the entry
planned-change : (c : Start)
    → (let e = c.args in
    Changes e.room.now e.len e.history.now e.used (planned e.plan e.bytes.now (take e.len e.room.now)) e.s)
planned-change c =
    let e = c.args in
    let p = c.requires in
    changes e.room.now e.len e.history.now e.used (planned e.plan e.bytes.now (take e.len e.room.now)) _ e.s
    p.0.0.1 p.1.0.1 p.1.1.0

pub overflow_sub-new : goal.overflow_sub-new
overflow_sub-new c = let m = planned-change (goal.at.overflow_sub-new c).Start in omega arith

pub overflow_add-new : goal.overflow_add-new
overflow_add-new c = let m = planned-change (goal.at.overflow_add-new c).Start in omega arith

pub overflow_add-from : goal.overflow_add-from
overflow_add-from c = let m = planned-change (goal.at.overflow_add-from c).Start in omega arith

pub slice_bounds-record_entry-end : goal.slice_bounds-record_entry-end
slice_bounds-record_entry-end c = let m = planned-change (goal.at.slice_bounds-record_entry-end c).Start in omega arith

pub record_entry-run-requires : goal.record_entry-run-requires
record_entry-run-requires c =
    let b = c in
    let e = b.args in
    let m = planned-change (goal.at.record_entry-run-requires c).Start in
    let n : e.s.place + e.s.taken - e.s.place ≡ e.s.taken = omega arith in
    (((m.sound, rw n m.old-long), b.requires.1.1.1), (m.stored, m.unbroken))

pub make-requires : goal.make-requires
make-requires c =
    let b = c in
    let m = planned-change (goal.at.make-requires c).Start in
    (b.requires.0.1, ((m.held, omega arith), b.requires.1.0.0))

pub returns : goal.returns
returns c =
    let r = c in
    let b = r in
    let e = b.args in
    let m = planned-change (goal.at.returns c).Start in
    let n : e.s.place + e.s.taken - e.s.place ≡ e.s.taken = omega arith in
    change-made e.room.now e.len e.history.now e.used (planned e.plan e.bytes.now (take e.len e.room.now)) e.s
    _ _ _ _ _ m (ap (λ (k : ℕ). take k (drop e.s.place e.room.now)) n) refl c.make.ensures r.record_entry-run.ensures.history r.record_entry-run.ensures.left
