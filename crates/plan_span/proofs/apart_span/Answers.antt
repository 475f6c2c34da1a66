-- The high byte decides whether one byte more agrees.
use native.Mathlib.Omega.{arith}
use Prim.Native.Nat.{◌+◌, ◌-◌, ◌/◌}
use mathlib.Core.Path.{◌≡◌}
use mathlib.Core.Bool.{true, false}
use native.Mathlib.Nat.{add-zero}
use lib.ListN.{length, get_or}
use lib.Dec.{eqb}
use borrow.Author.Tests.{eq-eqb, ne_eqb}
use Rattle.plan_span.proofs.apart_span.Goals as goal

pub overflow_cast-f : goal.overflow_cast-f
overflow_cast-f c =
    let e = c.args in
    omega (arith, c.type_inv.f (e.l + 1))

pub returns-then-f-l : goal.returns-then-f-l
returns-then-f-l c =
    let e = c.args in
    let t : eqb (get_or e.f.now (e.l + 1) 0) (e.x / 256) ≡ true = eq-eqb _ _ c.if-f-l.true in
    rw t c.span_from.ensures

pub returns : goal.returns
returns c =
    let e = c.args in
    let t : eqb (get_or e.f.now (e.l + 1) 0) (e.x / 256) ≡ false = ne_eqb _ _ c.if-f-l.false in
    rw (t, add-zero (length e.f.now - (e.l + 2))) c.span_from-2.ensures
