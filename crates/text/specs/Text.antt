-- Texts (document 01, "The file"): zero or more bytes 0x20 to 0x7E, then zeros to the end of a field of 32 bytes.
use Rattle.std.specs.Prelude.{ℕ, ◌-◌, Bool, true, ◌&&◌, cond, List, [], ◌∷◌, ◌++◌, length, drop, leb, eqb}
use Rattle.fields.specs.Bytes.{zeros}

-- a byte that a text may hold
unfoldable pub printable : ℕ → Bool
printable b = leb 0x20 b && leb b 0x7E

-- bytes that are a text: what request [3] of document 02 moves
unfoldable pub plain_text : List ℕ → Bool
plain_text [] = true
plain_text (b ∷ s) = printable b && plain_text s

unfoldable pub all_zero : List ℕ → Bool
all_zero [] = true
all_zero (b ∷ s) = eqb b 0 && all_zero s

-- what a field holds before its first zero
unfoldable pub text_of : List ℕ → List ℕ
text_of [] = []
text_of (b ∷ s) = cond (eqb b 0) [] (b ∷ text_of s)

-- a field's bytes are a text, then zeros
unfoldable pub text_ok : List ℕ → Bool
text_ok s = plain_text (text_of s) && all_zero (drop (length (text_of s)) s)

-- a text that is given to a writer, without padding
unfoldable pub given_ok : List ℕ → Bool
given_ok s = leb (length s) 32 && plain_text s

-- a given text as it stands in its field
unfoldable pub padded : List ℕ → List ℕ
padded s = s ++ zeros (32 - length s)
