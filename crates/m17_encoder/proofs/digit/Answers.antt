-- The table's rule, at the character; the bytes before a space and past Z are foreign.
use Prim.Native.Nat.{◌+◌, ◌-◌}
use mathlib.Core.Path.{◌≡◌, sym}
use borrow.Author.Tests.{ltb-false}
use Rattle.m17.proofs.Laws.{digit-before, digit-past, digit-le}
use native.Mathlib.Omega.{arith}
use borrow.Author.Rules.{rules}
use Rattle.m17_encoder.proofs.digit.Goals as goal
use Rattle.m17_encoder.proofs.digit.Goals.{then-c-lt32-via-then-c-lt32, then-c-lt32-via-else-c-lt32+then-c-gt90}

pub returns-then-c-lt32 : goal.returns-then-c-lt32
returns-then-c-lt32 c =
    let k = c.args.c in
    (sym (elim c.then-c-lt32.branch [ then-c-lt32-via-then-c-lt32 w ↦ digit-before k (omega arith) | then-c-lt32-via-else-c-lt32+then-c-gt90 w ↦ digit-past k (omega arith) ]), search rules)

pub returns : goal.returns
returns c =
    let k : 32 + (c.args.c - 32) ≡ c.args.c = omega arith in
    let r = rw k at (c.requires.entry (c.args.c - 32) (omega (arith, ltb-false))) in
    (r, rw r (digit-le c.args.c))
