-- What a reader gave: as many bytes as were asked for, or all that it had.
use Rattle.std.specs.Prelude.{ℕ, ◌<◌, ◌≤◌, List, Option, take}
use Rattle.std.specs.Io.KnownBytes.{Consumes, IsAtEnd}

-- the buffer begins with the bytes that were read, n of them, or fewer where the input ended
abbrev pub Fills : Option (List ℕ) → Option (List ℕ) → ℕ → List ℕ → Type 0
Fills old new n buffer = (k : ℕ) × ((k ≤ n) × (Consumes old new (take k buffer) × (k < n → IsAtEnd new)))
