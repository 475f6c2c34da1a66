-- How the scan for a common ending goes on. No promise to a caller rests on these.
use Rattle.std.specs.Prelude.{ℕ, ◌+◌, ◌-◌, ◌≤◌, ◌≡◌, List, length, take}
use Rattle.affixes.specs.Common.{common_suffix}

-- the last n bytes agree
abbrev pub SuffixTo : List ℕ → List ℕ → ℕ → Type 0
SuffixTo a b n =
    ((n ≤ length a) × (n ≤ length b)) × (common_suffix a b ≡ n + common_suffix (take (length a - n) a) (take (length b - n) b))
