-- Numbers of an entry (document 01, "The history"): groups of seven bits, low group first, top bit set on all but the last, shortest
-- form only, at most 1,048,576.
use Rattle.std.specs.Prelude.{ℕ, zero, suc, ◌+◌, ◌-◌, ◌*◌, ◌/◌, ◌%◌, Bool, true, false, ◌&&◌, not, cond, List, [], ◌∷◌, leb, ltb, eqb}
use Rattle.std.specs.Prelude.{Option, Some, None}
use Rattle.varint.specs.declared.Number.{Number}

-- the number x, read from n bytes
abbrev pub found : ℕ → ℕ → Option Number
found x n = Some (record { value = x; size = n })

-- x in at most n groups
unfoldable pub groups : ℕ → ℕ → List ℕ
groups zero x = []
groups (suc n) x = cond (ltb x 128) (x ∷ []) ((128 + x % 128) ∷ groups n (x / 128))

-- three groups hold every number up to 1,048,576; no entry has a greater one, as both files of a change were read before
unfoldable pub number_bytes : ℕ → List ℕ
number_bytes x = groups 3 x

-- a group before the others: low bits, one byte more
unfoldable pub with_group : ℕ → Option Number → Option Number
with_group low (Some r) = found (low + 128 * r.value) (r.size + 1)
with_group low None = None

-- a number in at most n groups at the front of s, and how many bytes it takes; a last group of zero is shortest only alone
unfoldable pub groups_at : ℕ → Bool → List ℕ → Option Number
groups_at zero alone s = None
groups_at (suc n) alone [] = None
groups_at (suc n) alone (b ∷ s) =
    cond (ltb b 128)
    (cond (eqb b 0 && not alone) None (found b 1))
    (with_group (b - 128) (groups_at n false s))

unfoldable pub at_most : ℕ → Option Number → Option Number
at_most limit (Some r) = cond (leb r.value limit) (Some r) None
at_most limit None = None

-- the number at the front of s; in shortest form a fourth group would pass the limit
unfoldable pub number_at : List ℕ → Option Number
number_at s = at_most 1_048_576 (groups_at 3 true s)
