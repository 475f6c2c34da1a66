-- The definition's tests on the mode.
use Rattle.channel.specs.Rule.{named_contact}
use borrow.Author.Tests.{eq-eqb, ne_eqb}
use native.Mathlib.Omega.{arith}
use Rattle.channel.proofs.values.named_contact.Goals as goal

pub returns-then-m-eq-DMR : goal.returns-then-m-eq-DMR
unfolding named_contact
returns-then-m-eq-DMR c =
    let m = c.byte_at-m in
    rw (← m.ensures, eq-eqb m.result 1 (omega arith), c.index_at.ensures)

pub returns-then-m-eq-M17 : goal.returns-then-m-eq-M17
unfolding named_contact
returns-then-m-eq-M17 c =
    let m = c.byte_at-m in
    rw (← m.ensures, ne_eqb m.result 1 (omega arith), eq-eqb m.result 2 (omega arith), c.index_at-then-m-eq-M17.ensures)

pub returns : goal.returns
unfolding named_contact
returns c =
    let m = c.byte_at-m in
    rw (← m.ensures, ne_eqb m.result 1 (omega arith), ne_eqb m.result 2 (omega arith))
