-- How the code goes about it; no promise to a caller rests on these.
use Rattle.std.specs.Prelude.{ℕ, ◌-◌, ◌/◌, ◌%◌, cond, List, [], ◌∷◌, ◌++◌, length, replicate, eqb}
use Rattle.m17.specs.Address.{char_of, text_up_to}

-- a value where there is a rest to write, else 0
abbrev pub while_rest : ℕ → ℕ → ℕ
while_rest rest c = cond (eqb rest 0) 0 c

-- a number's text of at most k characters, zeros after it: k bytes
unfoldable pub padded : ℕ → ℕ → List ℕ
padded k n = text_up_to k n ++ replicate (k - length (text_up_to k n)) 0

-- the three characters of a group with another above it
abbrev pub full : ℕ → List ℕ
full group = char_of (group % 40) ∷ char_of (group / 40 % 40) ∷ char_of (group / 1600) ∷ []
