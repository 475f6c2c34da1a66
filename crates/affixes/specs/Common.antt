-- What two byte lists have in common (document 01, "The history").
use Rattle.std.specs.Prelude.{ℕ, ◌+◌, cond, List, [], ◌∷◌, reverse, eqb}

-- the length of the longest common beginning
unfoldable pub common_prefix : List ℕ → List ℕ → ℕ
common_prefix [] b = 0
common_prefix (x ∷ a) [] = 0
common_prefix (x ∷ a) (y ∷ b) = cond (eqb x y) (1 + common_prefix a b) 0

-- the length of the longest common ending
unfoldable pub common_suffix : List ℕ → List ℕ → ℕ
common_suffix a b = common_prefix (reverse a) (reverse b)
