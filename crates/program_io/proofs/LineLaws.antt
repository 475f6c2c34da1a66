-- Bytes in digits, one more at a time; a sum, one more byte at a time.
use Rattle.std.proofs.Common.{◌≡◌, ℕ, suc, ◌+◌, ◌*◌, ◌%◌, ◌<◌, ◌≤◌, List, [], ◌∷◌, ◌++◌, length, get_or, take, drop, refl, ap, sym, ◌∙◌, append_assoc, append-nil, arith, drop-cons}
use Rattle.std.specs.Prelude.{codes}
use Rattle.std.proofs.Math.Seq.{take-suc}
use lib.ListN.{drop_of_length-le}
use Rattle.program_io.specs.Lines.{hex_byte, hex_bytes, hex_or_hyphen, checksum_from}

pub hex_bytes-append : (a b : List ℕ) → hex_bytes (a ++ b) ≡ hex_bytes a ++ hex_bytes b
unfolding hex_bytes
hex_bytes-append [] b = refl
hex_bytes-append (x ∷ a) b = ap (λ (l : List ℕ). hex_byte x ++ l) (hex_bytes-append a b)

pub hex_bytes-one : (x : ℕ) → hex_bytes (x ∷ []) ≡ hex_byte x
unfolding hex_bytes
hex_bytes-one x = refl

pub hex_bytes-more : (s : List ℕ) (i : ℕ) → i < length s → hex_bytes (take (i + 1) s) ≡ hex_bytes (take i s) ++ hex_byte (get_or s i 0)
hex_bytes-more s i h =
    let e : i + 1 ≡ suc i = omega arith in
    ap (λ (k : ℕ). hex_bytes (take k s)) e ∙ ap hex_bytes (take-suc s i 0 h) ∙ hex_bytes-append (take i s) (get_or s i 0 ∷ []) ∙ ap (λ (l : List ℕ). hex_bytes (take i s) ++ l) (hex_bytes-one (get_or s i 0))

pub hex_or_hyphen-none : (s : List ℕ) → length s ≡ 0 → hex_or_hyphen s ≡ codes "-"
unfolding hex_or_hyphen
hex_or_hyphen-none [] h = refl
hex_or_hyphen-none (b ∷ s) h = absurd (omega arith)

pub hex_or_hyphen-some : (s : List ℕ) → 0 < length s → hex_or_hyphen s ≡ hex_bytes s
unfolding hex_or_hyphen
hex_or_hyphen-some [] h = absurd (omega arith)
hex_or_hyphen-some (b ∷ s) h = refl

pub checksum_from-drop : (s : List ℕ) (i h : ℕ) → i < length s → checksum_from h (drop i s) ≡ checksum_from ((h * 257 + get_or s i 0 + 1) % 2147483647) (drop (i + 1) s)
unfolding checksum_from
checksum_from-drop s i h l =
    let e : suc i ≡ i + 1 = omega arith in
    ap (checksum_from h) (drop-cons s i 0 l) ∙ ap (λ (k : ℕ). checksum_from ((h * 257 + get_or s i 0 + 1) % 2147483647) (drop k s)) e

pub checksum_from-end : (s : List ℕ) (i h : ℕ) → length s ≤ i → checksum_from h (drop i s) ≡ h
unfolding checksum_from
checksum_from-end s i h l = rw drop_of_length-le
