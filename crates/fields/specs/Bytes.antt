-- Parts of a byte list and numbers in bytes (document 01, "The job": all numbers are little-endian except the M17 address,
-- which stands most significant byte first).
use Rattle.std.specs.Prelude.{ℕ, zero, suc, ◌+◌, ◌*◌, ◌/◌, ◌%◌, ◌<◌, List, [], ◌∷◌, ◌++◌, length, take, drop, get_or, replicate}

-- the n bytes of s at k; fewer where s ends before that
abbrev pub part : List ℕ → ℕ → ℕ → List ℕ
part s k n = take n (drop k s)

-- numbers that are all bytes
abbrev pub AllBytes : List ℕ → Type 0
AllBytes s = (i : ℕ) → get_or s i 0 < 256

-- n zero bytes
unfoldable pub zeros : ℕ → List ℕ
zeros n = replicate n 0

-- d with s written over it from place k on
unfoldable pub over : List ℕ → ℕ → List ℕ → List ℕ
over d k s = take k d ++ (s ++ drop (k + length s) d)

-- the number that bytes hold, low byte first
unfoldable pub little : List ℕ → ℕ
little [] = 0
little (b ∷ s) = b + 256 * little s

-- x as n bytes, low byte first
unfoldable pub little_bytes : ℕ → ℕ → List ℕ
little_bytes zero x = []
little_bytes (suc n) x = x % 256 ∷ little_bytes n (x / 256)

-- the number that bytes hold, high byte first
unfoldable pub big_from : ℕ → List ℕ → ℕ
big_from high [] = high
big_from high (b ∷ s) = big_from (high * 256 + b) s

abbrev pub big : List ℕ → ℕ
big s = big_from 0 s

-- x as n bytes, high byte first
unfoldable pub big_bytes : ℕ → ℕ → List ℕ
big_bytes zero x = []
big_bytes (suc n) x = big_bytes n (x / 256) ++ (x % 256 ∷ [])

-- the number in the n bytes of s at k, low byte first
abbrev pub num : List ℕ → ℕ → ℕ → ℕ
num s k n = little (part s k n)
