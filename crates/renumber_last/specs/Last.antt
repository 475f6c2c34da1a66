-- The last index that a renumbering changes: a file before and after it agree behind that index.
use Rattle.std.specs.Prelude.{ℕ, ◌+◌, ◌≤◌, ◌≡◌, List, length, drop, Some, None, Option}
use Rattle.fields.specs.Bytes.{num}

-- f and g's renumbering of it, h, agree behind the index at l, which g moves; `from` is where the renumbered part starts
pub record Apart (g : ℕ → ℕ) (f h : List ℕ) (from l : ℕ) : Type 0 where
  pub starts : from ≤ l
  pub inside : l + 2 ≤ length f
  pub behind : drop (l + 2) h ≡ drop (l + 2) f
  pub index : num h l 2 ≡ g (num f l 2)
  pub moved : g (num f l 2) ≡ num f l 2 → ⊥

unfoldable pub LastMoved : (ℕ → ℕ) → List ℕ → List ℕ → ℕ → Option ℕ → Type 0
LastMoved g f h from None = h ≡ f
LastMoved g f h from (Some l) = Apart g f h from l
