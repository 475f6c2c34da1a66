-- The place of the first zero, or the end.
use Rattle.std.proofs.Common.{◌≡◌, ℕ, ◌+◌, ◌≤◌, Bool, true, false, cond, ltb, List, [], ◌∷◌, eqb, Some, None, refl, length, rules, arith}
use Rattle.std.proofs.lemmas.Bool.{ltb-false}
use Rattle.std.proofs.lemmas.Iterator.{YieldsList-from_slice}
use Rattle.std.proofs.lemmas.Iterator.Search.{position_from_yields_List}
use Rattle.std.proofs.lemmas.List.Recursion.{is_position_or_len}
use Rattle.std.proofs.lemmas.List.Sums.{prefix_len-le-length}
use Rattle.std.specs.List.{position_or_len}
use Rattle.std.specs.Option.{unwrap_or}
use borrow.Author.Tests.{tests}
use Rattle.text.specs.Text.{text_of}
use Rattle.text.proofs.text_length.Goals as goal

length-cond : (t : Bool) (b : ℕ) (s : List ℕ) → length (cond t [] (b ∷ s)) ≡ cond t 0 (1 + length s)
length-cond true b s = refl
length-cond false b s = omega arith

first_zero : (s : List ℕ) → length (text_of s) ≡ position_or_len (λ b. eqb b 0) s
unfolding text_of
first_zero s = is_position_or_len (λ s. length (text_of s)) (λ b. eqb b 0) refl (λ b s. length-cond (eqb b 0) b (text_of s)) s

or_end : (p n : ℕ) (t : Bool) → ltb p n ≡ t → p ≤ n → unwrap_or (cond t (Some p) None) n ≡ p
or_end p n true e h = refl
or_end p n false e h = omega (arith, ltb-false p n e)

pub returns : goal.returns
returns c =
    let s = c.args.s.now in
    let f = position_from_yields_List (λ b. eqb b 0) _ _ c.position.result c.position.ensures.ran (YieldsList-from_slice s cc) (λ x b q k. search (rules, tests)) in
    rw (c.unwrap_or.ensures, f, first_zero s) (or_end _ (length s) _ refl (prefix_len-le-length _ s))
