-- Each return is one of the definition's answers.
use mathlib.Core.Path.{◌≡◌, sym}
use lib.ListN.{length}
use borrow.Author.Tests.{ltb-false}
use Rattle.m17.specs.Address.{hash_signs}
use Rattle.m17.proofs.Laws.{encoding-length, within-below, within-above}
use Rattle.m17_encoder.specs.Texts.{OneToNine}
use Rattle.m17_encoder.proofs.SumLaws.{signs-none, answer-foreign, answer-space, answer-number}
use native.Mathlib.Omega.{arith}
use Rattle.m17_encoder.proofs.encode.Goals as goal
use Rattle.m17_encoder.proofs.encode.Goals.{Else-s-eq35, then-n-eq0-via-then-n-eq0, then-n-eq0-via-else-n-eq0+then-n-gt9}

pub returns-then-n-eq0 : goal.returns-then-n-eq0
returns-then-n-eq0 c =
    let s = c.args.s.now in
    sym (encoding-length _ s
    (elim c.then-n-eq0.branch [ then-n-eq0-via-then-n-eq0 w ↦ within-below 1 9 (length s) (omega arith) | then-n-eq0-via-else-n-eq0+then-n-gt9 w ↦ within-above 1 9 (length s) (omega arith) ]))

-- a text of 1 to 9 characters that does not begin with a hash sign
one-to-nine : (t : Else-s-eq35) → OneToNine t.args.s.now
one-to-nine t = (omega arith, omega (arith, ltb-false))

none : (t : Else-s-eq35) → 0 ≡ hash_signs t.args.edition t.args.s.now
none t = sym (signs-none _ _ t.if-s-eq35.false)

pub returns-in-Err : goal.returns-in-Err
returns-in-Err c =
    let t = (goal.at.returns-in-Err c).Else-s-eq35 in
    answer-foreign c.args.edition c.args.s.now (one-to-nine t) 0 (none t) (omega arith) _ _ (omega arith) c.first_foreign.ensures c.in-Err.ensures

pub returns-then-s-n-eq32 : goal.returns-then-s-n-eq32
returns-then-s-n-eq32 c =
    let t = (goal.at.returns-then-s-n-eq32 c).Else-s-eq35 in
    answer-space c.args.edition c.args.s.now (one-to-nine t) 0 (none t) (omega arith) c.in-Ok.ensures.0 c.if-s-n-eq32.true

pub returns-else-s-n-eq32 : goal.returns-else-s-n-eq32
returns-else-s-n-eq32 c =
    let t = (goal.at.returns-else-s-n-eq32 c).Else-s-eq35 in
    let n = c.in-Ok.ensures in
    answer-number c.args.edition c.args.s.now (one-to-nine t) 0 (none t) (omega arith) n.0 _ (omega (arith, n.1)) c.if-s-n-eq32.false
