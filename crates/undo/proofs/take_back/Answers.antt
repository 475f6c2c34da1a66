-- Where the entry does not fit nothing is changed; else it is taken back and dropped.
use Prim.Native.Nat.{◌-◌, ◌≤◌}
use mathlib.Core.Path.{◌≡◌, sym, ◌∙◌}
use lib.ListN.{length}
use borrow.Author.Rules.{rules}
use borrow.Author.Tests.{leb-false}
use native.Mathlib.Omega.{arith}
use Rattle.std.specs.Prelude.{Err}
use Rattle.fields.proofs.Laws.{unless-valid, unless_fits, unless_refuses}
use Rattle.undo.proofs.UndoLaws.{past-codeplug, past_room, refused-back, taken_back}
use Rattle.undo.proofs.take_back.Goals as goal
use Rattle.undo.proofs.take_back.Goals.{In_ok-unless, In_ok-unless-2, In_ok-unless-3}

-- what each test that passes says
put-fits : (c : In_ok-unless) → c.args.top.put ≤ c.args.len
put-fits c = unless_fits _ _ _ _ (sym c.unless.ensures ∙ c.in_ok-unless.was)

place-fits : (c : In_ok-unless-2) → c.args.top.place ≤ c.args.len - c.args.top.put
place-fits c = unless_fits _ _ _ _ (sym c.unless-2.ensures ∙ c.in_ok-unless-2.was)

taken-fits : (c : In_ok-unless-3) → c.args.top.taken ≤ length c.args.room.now - (c.args.len - c.args.top.put)
taken-fits c = unless_fits _ _ _ _ (sym c.unless-3.ensures ∙ c.in_ok-unless-3.was)

pub returns-in_err-unless : goal.returns-in_err-unless
returns-in_err-unless c =
    let e = c.args in
    let no = unless_refuses _ _ _ _ (sym c.unless.ensures ∙ c.in_err-unless.was) in
    let returned : c.from_residual.result ≡ Err c.in_err-unless.field-0.0 = search rules in
    rw (returned, ← no.1) (past-codeplug e.room.now e.len e.history.now e.used e.top e.entries _ (omega (arith, leb-false _ _ no.0)))

pub overflow_sub-len : goal.overflow_sub-len
overflow_sub-len c = put-fits (goal.at.overflow_sub-len c).In_ok-unless

pub returns-in_err-unless-2 : goal.returns-in_err-unless-2
returns-in_err-unless-2 c =
    let e = c.args in
    let no = unless_refuses _ _ _ _ (sym c.unless-2.ensures ∙ c.in_err-unless-2.was) in
    let returned : c.from_residual-in_err-unless-2.result ≡ Err c.in_err-unless-2.field-0.0 = search rules in
    let put = put-fits (goal.at.returns-in_err-unless-2 c).In_ok-unless in
    rw (returned, ← no.1) (past-codeplug e.room.now e.len e.history.now e.used e.top e.entries _ (omega (arith, leb-false _ _ no.0, put)))

pub overflow_sub-len-2 : goal.overflow_sub-len-2
overflow_sub-len-2 c = omega (arith, put-fits (goal.at.overflow_sub-len-2 c).In_ok-unless)

pub returns-in_err-unless-3 : goal.returns-in_err-unless-3
returns-in_err-unless-3 c =
    let e = c.args in
    let no = unless_refuses _ _ _ _ (sym c.unless-3.ensures ∙ c.in_err-unless-3.was) in
    let returned : c.from_residual-in_err-unless-3.result ≡ Err c.in_err-unless-3.field-0.0 = search rules in
    let put = put-fits (goal.at.returns-in_err-unless-3 c).In_ok-unless in
    let place = place-fits (goal.at.returns-in_err-unless-3 c).In_ok-unless-2 in
    rw (returned, ← no.1) (past_room e.room.now e.len e.history.now e.used e.top e.entries (omega arith) (omega arith) (omega arith) _ (omega (arith, leb-false _ _ no.0)))

pub revert-fits-requires : goal.revert-fits-requires
revert-fits-requires c =
    let put = put-fits (goal.at.revert-fits-requires c).In_ok-unless in
    let place = place-fits (goal.at.revert-fits-requires c).In_ok-unless-2 in
    let taken = taken-fits (goal.at.revert-fits-requires c).In_ok-unless-3 in
    omega arith

pub returns-in_err-unless-4 : goal.returns-in_err-unless-4
returns-in_err-unless-4 c =
    let e = c.args in
    let no = unless_refuses _ _ _ _ (sym c.unless-4.ensures ∙ c.in_err-unless-4.was) in
    let returned : c.from_residual-in_err-unless-4.result ≡ Err c.in_err-unless-4.field-0.0 = search rules in
    let put = put-fits (goal.at.returns-in_err-unless-4 c).In_ok-unless in
    let place = place-fits (goal.at.returns-in_err-unless-4 c).In_ok-unless-2 in
    let taken = taken-fits (goal.at.returns-in_err-unless-4 c).In_ok-unless-3 in
    rw (returned, ← no.1) (
    refused-back e.room.now e.len e.history.now e.used e.top e.entries (omega arith) (omega arith) (omega arith) (omega arith) _
    _ _ _ c.revert-fits.ensures no.0)

pub overflow_sub-result : goal.overflow_sub-result
overflow_sub-result c = put-fits (goal.at.overflow_sub-result c).In_ok-unless

pub returns : goal.returns
returns c =
    let e = c.args in
    let put = put-fits (goal.at.returns c).In_ok-unless in
    let place = place-fits (goal.at.returns c).In_ok-unless-2 in
    let taken = taken-fits (goal.at.returns c).In_ok-unless-3 in
    let valid = unless-valid _ _ _ (sym c.unless-4.ensures ∙ c.in_ok-unless-4.was) in
    taken_back e.room.now e.len e.history.now e.used e.top e.entries (omega arith) (omega arith) (omega arith) (omega arith) _
    _ _ _ _ c.revert-fits.ensures valid (omega arith) (omega arith) (omega arith) c.drop_front.ensures
