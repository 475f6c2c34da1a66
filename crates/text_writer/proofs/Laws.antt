-- What the writer of a text accepts, how its field comes out of zeros, and that a written field reads back.
use Prim.Native.Nat.{ℕ, ◌+◌, ◌-◌, ◌≤◌}
use mathlib.Core.Path.{◌≡◌, refl, ap, ◌∙◌}
use mathlib.Core.Bool.{true}
use mathlib.Core.List.{List}
use native.Mathlib.Omega.{arith}
use borrow.Author.Tests.{leb-true}
use lib.ListN.{length}
use Rattle.fields.specs.Bytes.{part, zeros, over}
use Rattle.fields.proofs.Laws.{then-valid, unless-valid, over-fresh, part-over, written-valid}
use Rattle.text.specs.Text.{text_ok, text_of, given_ok, padded}
use Rattle.text.proofs.Laws.{length-padded, given_ok-length, text_ok-padded, text_of-padded}
use Rattle.text_writer.specs.Field.{text_write_rule, text_written}
use Rattle.fields.specs.Rule.{Valid}

pub rule-valid : (size : ℕ) (text : List ℕ) → text_write_rule size text ≡ Valid → (32 ≤ size) × (given_ok text ≡ true)
unfolding text_write_rule
rule-valid size text h =
    let a = then-valid _ _ h in
    (leb-true 32 size (unless-valid _ _ _ a.0), unless-valid _ _ _ a.1)

pub rule_room : (size : ℕ) (text : List ℕ) → text_write_rule size text ≡ Valid → 32 ≤ size
rule_room size text h = (rule-valid size text h).0

pub rule_given : (size : ℕ) (text : List ℕ) → text_write_rule size text ≡ Valid → given_ok text ≡ true
rule_given size text h = (rule-valid size text h).1

pub field_fits : (text : List ℕ) → given_ok text ≡ true → length (padded text) ≡ 32
field_fits text h = length-padded text (given_ok-length text h)

-- a given text over zeros is its field
pub text-first : (text : List ℕ) → given_ok text ≡ true → over (zeros 32) 0 text ≡ padded text
unfolding padded
text-first text h =
    let l = given_ok-length text h in
    let e : 32 ≡ length text + (32 - length text) = omega arith in
    ap (λ (n : ℕ). over (zeros n) 0 text) e ∙ over-fresh text (length text) (32 - length text) refl

-- the field that is written is a text's, and holds the text that was given
pub reads-back : (out text : List ℕ) → text_write_rule (length out) text ≡ Valid
    → (text_ok (part (text_written out text) 0 32) ≡ true) × (text_of (part (text_written out text) 0 32) ≡ text)
unfolding text_written
reads-back out text h =
    let g = (rule-valid (length out) text h).1 in
    let e : part (text_written out text) 0 32 ≡ padded text =
    rw (written-valid _ out (padded text) h) (part-over out 0 (padded text) 32 (omega arith) (length-padded text (given_ok-length text g))) in
    (rw e (text_ok-padded text g), rw e (text_of-padded text g))
