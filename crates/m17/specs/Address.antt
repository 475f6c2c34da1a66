-- M17 addresses (document 01, "M17 addresses"): a text of 1 to 9 characters is the sum of digit × 40^position. By the newer edition a text may begin with a
-- hash sign (document 02, [10]). A callsign is whatever has a text, a hash address too.
use Rattle.std.specs.Prelude.{ℕ, zero, suc, ◌+◌, ◌-◌, ◌*◌, ◌/◌, ◌%◌, Bool, true, false, ◌&&◌, ◌||◌, not, cond, List, [], ◌∷◌, ◌++◌, length, drop, replicate, leb, ltb, eqb, Ok, Err, Result}
use Rattle.m17.specs.declared.Edition.{Edition}
use Rattle.m17.specs.declared.Edition.TheVariants.{Older, Newer}
use Rattle.m17.specs.declared.Address.{Address}
use Rattle.m17.specs.declared.Address.TheVariants.{Callsign, Broadcast}
use Rattle.m17.specs.declared.Decoded.{Decoded}
use Rattle.m17.specs.declared.Decoded.TheVariants as decoded
use Rattle.format.specs.declared.refusals.Reason.TheVariants as reason
use Rattle.format.specs.declared.refusals.Refusal.{Refusal}
use Rattle.fields.specs.Rule.{Refused}

-- ---- digits and characters

unfoldable pub within : ℕ → ℕ → ℕ → Bool
within low high c = leb low c && leb c high

-- space 0, A to Z 1 to 26, 0 to 9 27 to 36, hyphen 37, slash 38, dot 39; any other character is foreign and has no digit: 40
unfoldable pub digit_of : ℕ → ℕ
digit_of c =
    cond (eqb c 0x20) 0
    (cond (within 0x41 0x5A c) (1 + (c - 0x41))
    (cond (within 0x30 0x39 c) (27 + (c - 0x30))
    (cond (eqb c 0x2D) 37
    (cond (eqb c 0x2F) 38
    (cond (eqb c 0x2E) 39
    40)))))

unfoldable pub foreign : ℕ → Bool
foreign c = eqb (digit_of c) 40

-- the character of a digit below 40
unfoldable pub char_of : ℕ → ℕ
char_of d =
    cond (eqb d 0) 0x20
    (cond (leb d 26) (0x41 + (d - 1))
    (cond (leb d 36) (0x30 + (d - 27))
    (cond (eqb d 37) 0x2D
    (cond (eqb d 38) 0x2F
    0x2E))))

-- ---- a text to its number

-- the sum of digit × 40^position, the first character at position 0
unfoldable pub address_of : List ℕ → ℕ
address_of [] = 0
address_of (c ∷ s) = digit_of c + 40 * address_of s

-- the position of the first foreign character, or the length where there is none
unfoldable pub first_foreign : List ℕ → ℕ
first_foreign [] = 0
first_foreign (c ∷ s) = cond (foreign c) 0 (1 + first_foreign s)

-- whether the last character is a space
unfoldable pub ends_in_space : List ℕ → Bool
ends_in_space [] = false
ends_in_space (c ∷ []) = eqb c 0x20
ends_in_space (c ∷ (d ∷ s)) = ends_in_space (d ∷ s)

-- ---- the same with a hash sign in front (document 02, [10])

abbrev pub hash_sign : ℕ
hash_sign = 0x23

-- 40^9: the hash sign alone
abbrev pub first_hash : ℕ
first_hash = 262_144_000_000_000

-- 1 where the first character is a hash sign and the edition the newer, else 0
unfoldable pub hash_signs : Edition → List ℕ → ℕ
hash_signs Older s = 0
hash_signs Newer [] = 0
hash_signs Newer (c ∷ s) = cond (eqb c hash_sign) 1 0

-- the position of the first foreign character of the whole text; a hash sign that begins it is none
unfoldable pub foreign_place : Edition → List ℕ → ℕ
foreign_place e s = hash_signs e s + first_foreign (drop (hash_signs e s) s)

-- the number of the text behind the hash sign, plus 40^9 where there is one
unfoldable pub number_of : Edition → List ℕ → ℕ
number_of e s = hash_signs e s * first_hash + address_of (drop (hash_signs e s) s)

-- refused: a text of 0 or over 9 characters, the hash sign counted; a foreign character, at its position; a text that ends in a space
unfoldable pub encoding : Edition → List ℕ → Result ℕ Refusal
encoding e s =
    cond (not (within 1 9 (length s))) (Refused reason.CallsignLength 0)
    (cond (ltb (foreign_place e s) (length s)) (Refused reason.CallsignForeign (foreign_place e s))
    (cond (ends_in_space s) (Refused reason.CallsignSpace 0)
    (Ok (number_of e s))))

-- ---- a number to its text

-- 40^9 - 1, the number of nine dots: the last text without a hash sign
abbrev pub last_plain : ℕ
last_plain = 262_143_999_999_999

-- 40^9 + 40^8 - 1, the number of a hash sign and eight dots
abbrev pub last_hash : ℕ
last_hash = 268_697_599_999_999

abbrev pub broadcast : ℕ
broadcast = 0xFFFFFFFFFFFF

-- the last number that has a text
abbrev pub last_of : Edition → ℕ
last_of Older = last_plain
last_of Newer = last_hash

-- a number with a text: those with a hash sign follow the others without a gap
unfoldable pub is_callsign : Edition → ℕ → Bool
is_callsign e n = within 1 (last_of e) n

-- which numbers are addresses
unfoldable pub address_ok : Edition → ℕ → Bool
address_ok e n = is_callsign e n || eqb n broadcast

-- the text of a number, of at most k characters
unfoldable pub text_up_to : ℕ → ℕ → List ℕ
text_up_to zero n = []
text_up_to (suc k) n = cond (eqb n 0) [] (char_of (n % 40) ∷ text_up_to k (n / 40))

-- past nine dots: a hash sign, and the text of at most eight characters of the number less 40^9
unfoldable pub text_for : ℕ → List ℕ
text_for n = cond (leb n last_plain) (text_up_to 9 n) (hash_sign ∷ text_up_to 8 (n - first_hash))

-- refused: a buffer under 9 bytes, then an invalid number; a callsign answers its text's length
unfoldable pub decoding : Edition → ℕ → ℕ → Result Decoded Refusal
decoding e room n =
    cond (ltb room 9) (Refused reason.CallsignBuffer 0)
    (cond (is_callsign e n) (Ok (decoded.Text (length (text_for n))))
    (cond (eqb n broadcast) (Ok decoded.Broadcast)
    (Refused reason.AddressNumber 0)))

-- the buffer after an answer: of a callsign the text and then zeros over the first nine bytes; otherwise all as lent
unfoldable pub decoded_by : Result Decoded Refusal → List ℕ → ℕ → List ℕ
decoded_by (Ok (decoded.Text len)) out n = text_for n ++ (replicate (9 - length (text_for n)) 0 ++ drop 9 out)
decoded_by (Ok decoded.Broadcast) out n = out
decoded_by (Err e) out n = out

unfoldable pub decoded_into : Edition → List ℕ → ℕ → List ℕ
decoded_into e out n = decoded_by (decoding e (length out) n) out n

-- ---- the address enum, by this paper's numbers

unfoldable pub address_number : Address → ℕ
address_number (Callsign n) = n
address_number Broadcast = broadcast

unfoldable pub address_for : ℕ → Address
address_for n = cond (eqb n broadcast) Broadcast (Callsign n)

abbrev pub is_broadcast : Address → Bool
is_broadcast (Callsign n) = false
is_broadcast Broadcast = true

-- a callsign's number that is one
unfoldable pub address_valid : Edition → Address → Bool
address_valid e (Callsign n) = is_callsign e n
address_valid e Broadcast = true
