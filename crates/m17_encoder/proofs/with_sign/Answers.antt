-- By the older the sign is foreign; by the newer what is behind it decides.
use Prim.Native.Nat.{◌≤◌}
use mathlib.Core.Path.{◌≡◌, refl, sym, ap, ◌∙◌}
use lib.ListN.{length, drop}
use borrow.Author.Tests.{eqb-true}
use Rattle.m17.specs.Address.{address_of, first_foreign, hash_signs}
use Rattle.m17_encoder.proofs.SumLaws.{behind-drop, signs-one, answer-foreign, answer-space, answer-number, answer-older, answer-alone, sum_low}
use native.Mathlib.Omega.{arith}
use Rattle.m17_encoder.proofs.with_sign.Goals as goal
use Rattle.m17_encoder.proofs.with_sign.Goals.{After-is_empty, In-Ok}

pub returns-in-Older : goal.returns-in-Older
returns-in-Older c = rw c.in-Older.is (answer-older c.args.s.now c.requires.1.0 c.requires.1.1)

-- the edition is the newer, and the sign is one
one : (t : After-is_empty) → 1 ≡ hash_signs t.args.edition t.args.s.now
one t = rw t.in_default.is (sym (signs-one t.args.s.now t.requires.1.0.0 t.requires.1.1))

pub returns-then-is_empty : goal.returns-then-is_empty
returns-then-is_empty c = answer-alone c.args.edition c.args.s.now c.requires.1.0 c.requires.1.1 (one (goal.at.returns-then-is_empty c).After-is_empty) (eqb-true _ 0 (sym c.is_empty.ensures ∙ c.if-is_empty.true))

pub returns-in-Err : goal.returns-in-Err
returns-in-Err c =
    let s = c.args.s.now in
    answer-foreign c.args.edition s c.requires.1.0 1 (one (goal.at.returns-in-Err c).After-is_empty) (omega (arith, c.requires.1.0.0)) _ _ refl
    (c.first_foreign.ensures ∙ ap first_foreign (behind-drop 1 s)) (rw (behind-drop 1 s) at c.in-Err.ensures)

-- the characters behind the sign have digits
behind-sign : (m : In-Ok)
    → (let s = m.args.s.now in
    (length (drop 1 s) ≤ first_foreign (drop 1 s)) × (m.in-Ok.sum ≡ address_of (drop 1 s)))
behind-sign m = rw (behind-drop 1 m.args.s.now) at m.in-Ok.ensures

pub returns-then-s-eq32 : goal.returns-then-s-eq32
returns-then-s-eq32 c =
    let b = behind-sign (goal.at.returns-then-s-eq32 c).In-Ok in
    answer-space c.args.edition c.args.s.now c.requires.1.0 1 (one (goal.at.returns-then-s-eq32 c).After-is_empty) (omega (arith, c.requires.1.0.0)) b.0 c.if-s-eq32.true

pub overflow_add-result-else-s-eq32 : goal.overflow_add-result-else-s-eq32
overflow_add-result-else-s-eq32 c =
    let g = goal.at.overflow_add-result-else-s-eq32 c in
    let b = behind-sign g.In-Ok in
    let l = sum_low c.args.edition c.args.s.now c.requires.1.0 1 (one g.After-is_empty) (omega (arith, c.requires.1.0.0)) b.0 in
    record { fits = omega (arith, b.1) }

pub returns-else-s-eq32 : goal.returns-else-s-eq32
returns-else-s-eq32 c =
    let g = goal.at.returns-else-s-eq32 c in
    let b = behind-sign g.In-Ok in
    answer-number c.args.edition c.args.s.now c.requires.1.0 1 (one g.After-is_empty) (omega (arith, c.requires.1.0.0)) b.0 _ (omega (arith, b.1)) c.if-s-eq32.false
