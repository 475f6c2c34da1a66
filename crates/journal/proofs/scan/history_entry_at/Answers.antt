-- Three numbers, then the old bytes: each return is one law on the numbers read so far.
use Prim.Native.Nat.{◌+◌}
use native.Mathlib.Omega.{arith}
use Rattle.journal.proofs.ScanLaws.{NumberHere, number-here, here-inside, no_place, no-put, no-taken, old-cut, old-whole}
use Rattle.journal.proofs.scan.history_entry_at.Goals as goal
use Rattle.journal.proofs.scan.history_entry_at.Goals.{In_ok-place, In_ok-put, In_ok-taken}
use Rattle.std.proofs.Common.{rules, ◌≡◌, sym, ◌∙◌, None}

-- the numbers that stand where they were read
one : (c : In_ok-place) → NumberHere c.args.s.now c.args.k c.in_ok-place.place.value c.in_ok-place.place.size
one c = number-here _ _ _ (sym c.in_ok-place.was ∙ c.number_at.ensures)

two : (c : In_ok-put)
    → NumberHere c.args.s.now (c.args.k + c.in_ok-place.place.size) c.in_ok-put.put.value c.in_ok-put.put.size
two c = number-here _ _ _ (sym c.in_ok-put.was ∙ c.number_at-2.ensures)

three : (c : In_ok-taken)
    → NumberHere c.args.s.now (c.args.k + c.in_ok-place.place.size + c.in_ok-put.put.size) c.in_ok-taken.taken.value c.in_ok-taken.taken.size
three c = number-here _ _ _ (sym c.in_ok-taken.was ∙ c.number_at-3.ensures)

pub returns-in_err-place : goal.returns-in_err-place
returns-in_err-place c =
    let none : c.from_residual.result ≡ None = search rules in
    none ∙ no_place c.args.s.now c.args.k (sym c.in_err-place.was ∙ c.number_at.ensures)

pub returns-in_err-put : goal.returns-in_err-put
returns-in_err-put c =
    let at = goal.at.returns-in_err-put c in
    let none : c.from_residual-in_err-put.result ≡ None = search rules in
    none ∙ no-put (one at.In_ok-place) (sym c.in_err-put.was ∙ c.number_at-2.ensures)

pub returns-in_err-taken : goal.returns-in_err-taken
returns-in_err-taken c =
    let at = goal.at.returns-in_err-taken c in
    let none : c.from_residual-in_err-taken.result ≡ None = search rules in
    none ∙ no-taken (one at.In_ok-place) (two at.In_ok-put) (sym c.in_err-taken.was ∙ c.number_at-3.ensures)

pub overflow_add-put_at : goal.overflow_add-put_at
overflow_add-put_at c = omega (arith, here-inside (one (goal.at.overflow_add-put_at c).In_ok-place))

pub overflow_add-taken_at : goal.overflow_add-taken_at
overflow_add-taken_at c = omega (arith, here-inside (two (goal.at.overflow_add-taken_at c).In_ok-put))

pub overflow_add-body : goal.overflow_add-body
overflow_add-body c = omega (arith, here-inside (three (goal.at.overflow_add-body c).In_ok-taken))

pub overflow_sub-s : goal.overflow_sub-s
overflow_sub-s c = omega (arith, here-inside (three (goal.at.overflow_sub-s c).In_ok-taken))

pub returns-then-s-body : goal.returns-then-s-body
returns-then-s-body c =
    let at = goal.at.returns-then-s-body c in
    old-cut (one at.In_ok-place) (two at.In_ok-put) (three at.In_ok-taken) (omega arith)

pub overflow_add-result : goal.overflow_add-result
overflow_add-result c = omega (arith, here-inside (three (goal.at.overflow_add-result c).In_ok-taken))

pub returns : goal.returns
returns c =
    let at = goal.at.returns c in
    old-whole (one at.In_ok-place) (two at.In_ok-put) (three at.In_ok-taken) (omega arith)
