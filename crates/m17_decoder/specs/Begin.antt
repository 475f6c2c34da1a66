-- How the code goes about it; no promise to a caller rests on these.
use Rattle.std.specs.Prelude.{ℕ, ◌+◌, ◌-◌, ◌≤◌, ◌≡◌, List, ◌++◌, length, take, drop, replicate}
use Rattle.m17.specs.Address.{text_up_to, text_for}
use Rattle.m17_groups.specs.Places.{padded}

-- a buffer `out`, lent as `lent`, that holds the first i of the nine bytes of n's text, `len` of them characters; the text of `rest` is what is still to write
pub record Begun (n : ℕ) (lent out : List ℕ) (i len rest : ℕ) : Type 0 where
  pub room : 9 ≤ length lent
  pub same : length out ≡ length lent
  pub few : len ≤ i
  pub inside : i ≤ 9
  pub count : length (text_for n) ≡ len + length (text_up_to (9 - i) rest)
  pub text : text_for n ++ replicate (9 - length (text_for n)) 0 ≡ take i out ++ padded (9 - i) rest
  pub behind : drop 9 out ≡ drop 9 lent
