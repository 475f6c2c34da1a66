-- How bytes stand in a line, and the sum that tells buffers apart.
use Rattle.std.specs.Prelude.{ℕ, false, ◌+◌, ◌*◌, ◌/◌, ◌%◌, List, [], ◌∷◌, ◌++◌, codes}
use Rattle.std.specs.Fmt.{digit_glyph}

-- the two digits of a byte, in lower case
abbrev pub hex_byte : ℕ → List ℕ
hex_byte b = digit_glyph false (b / 16) ∷ digit_glyph false (b % 16) ∷ []

-- two digits for each byte
unfoldable pub hex_bytes : List ℕ → List ℕ
hex_bytes [] = []
hex_bytes (b ∷ s) = hex_byte b ++ hex_bytes s

-- the same, or a hyphen for no bytes
unfoldable pub hex_or_hyphen : List ℕ → List ℕ
hex_or_hyphen [] = codes "-"
hex_or_hyphen (b ∷ s) = hex_bytes (b ∷ s)

-- the sum so far, and each byte that follows
unfoldable pub checksum_from : ℕ → List ℕ → ℕ
checksum_from h [] = h
checksum_from h (b ∷ s) = checksum_from ((h * 257 + b + 1) % 2147483647) s
