-- The place of the first character with no digit, or the end.
use Rattle.std.proofs.Common.{◌≡◌, refl, ℕ, ◌≤◌, Bool, true, false, cond, ltb, List, Some, None, length, rules, arith}
use Rattle.std.proofs.lemmas.Bool.{ltb-false}
use Rattle.std.proofs.lemmas.Iterator.{YieldsList-from_slice}
use Rattle.std.proofs.lemmas.Iterator.Search.{position_from_yields_List}
use Rattle.std.proofs.lemmas.List.Recursion.{is_position_or_len}
use Rattle.std.proofs.lemmas.List.Sums.{prefix_len-le-length}
use Rattle.std.specs.List.{position_or_len}
use Rattle.std.specs.Option.{unwrap_or}
use borrow.Author.Tests.{tests}
use Rattle.m17.specs.Address.{first_foreign, foreign}
use Rattle.m17_encoder.proofs.first_foreign.Goals as goal

first : (s : List ℕ) → first_foreign s ≡ position_or_len foreign s
unfolding first_foreign
first s = is_position_or_len first_foreign foreign refl (λ c s. refl) s

or_end : (p n : ℕ) (t : Bool) → ltb p n ≡ t → p ≤ n → unwrap_or (cond t (Some p) None) n ≡ p
or_end p n true e h = refl
or_end p n false e h = omega (arith, ltb-false p n e)

pub returns : goal.returns
unfolding foreign
returns c =
    let s = c.args.s.now in
    let f = position_from_yields_List foreign _ _ c.position.result c.position.ensures.ran (YieldsList-from_slice s cc) (λ x b q k. search (rules, tests)) in
    rw (c.unwrap_or.ensures, f, first s) (or_end _ (length s) _ refl (prefix_len-le-length _ s))
