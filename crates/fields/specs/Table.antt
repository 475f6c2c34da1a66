-- A list that holds a function's values at n numbers, the first of them low.
use Rattle.std.specs.Prelude.{ℕ, ◌+◌, ◌<◌, ◌≡◌, List, get_or}

pub record Table (f : ℕ → ℕ) (low n : ℕ) (t : List ℕ) : Type 0 where
  pub entry : (k : ℕ) → k < n → get_or t k 0 ≡ f (low + k)
