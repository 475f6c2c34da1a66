use Prim.Native.Nat.{◌-◌}
use mathlib.Core.Path.{◌≡◌, refl, sym, ◌∙◌}
use lib.ListN.{length, get_or}
use Rattle.m17.specs.Address.{digit_of, address_of, first_foreign}
use Rattle.m17.proofs.Laws.{address_room}
use Rattle.m17_encoder.proofs.SumLaws.{past-drop, place-foreign, place-sum, place-native, place-le}
use native.Mathlib.Omega.{arith}
use Rattle.m17_encoder.proofs.number.Goals as goal

pub loop-i-init : goal.loop-i-init
loop-i-init c =
    let z = past-drop c.args.s.now 9 c.requires.1.1 in
    (rw z (unfold address_of in refl), rw z (unfold first_foreign in refl))

pub returns-then-d-eq40 : goal.returns-then-d-eq40
returns-then-d-eq40 c =
    place-foreign c.args.s.now _ c.requires.1.0 (rw c.below.ensures at (sym c.digit-d.ensures.0 ∙ c.if-d-eq40.true))

pub overflow_mul-sum : goal.overflow_mul-sum
overflow_mul-sum c =
    let room = address_room c.args.s.now c.loop-i.i c.requires.1.1 c.loop-i-test.true c.loop-i.invariant.1 in
    record { fits = omega (arith, c.loop-i.invariant.0) }

pub overflow_add-sum : goal.overflow_add-sum
overflow_add-sum c =
    let l = c.loop-i in
    let s = c.args.s.now in
    let room = address_room s l.i c.requires.1.1 c.loop-i-test.true l.invariant.1 in
    record { fits = omega (arith, l.invariant.0, c.below-in-loop-i.ensures, place-le (l.i - 1) (length s) c.digit-d.result, c.digit-d.ensures.1) }

pub loop-i-preserved : goal.loop-i-preserved
loop-i-preserved c =
    let l = c.loop-i in
    let s = c.args.s.now in
    let some = c.loop-i-test.true in
    let b = c.below.ensures in
    let d = c.digit-d.ensures.0 in
    let some-digit : digit_of (get_or s c.below.result 0) ≡ 40 → ⊥ = λ z. c.if-d-eq40.false (d ∙ z) in (
      rw (c.below-in-loop-i.ensures, d, b) (place-sum s l.i l.sum some l.invariant.0),
      place-native s l.i some (rw b at some-digit) l.invariant.1,
    )
