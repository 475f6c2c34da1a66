-- Other bytes in place of some of a content, of any length.
use Rattle.std.specs.Prelude.{ℕ, ◌+◌, List, ◌++◌, take, drop}

-- the bytes s in place of the k bytes at p
unfoldable pub cut : List ℕ → ℕ → ℕ → List ℕ → List ℕ
cut f p k s = take p f ++ (s ++ drop (p + k) f)
