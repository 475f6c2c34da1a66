-- Bytes that hold more than one value, and signed bytes: each pair of functions undoes the other on what a byte can hold.
-- By arithmetic alone. Assumes nothing.
use mathlib.Core.Path.{◌≡◌, refl}
use mathlib.Core.Bool.{Bool, true, false, ◌&&◌, cond}
use Prim.Native.Nat.{ℕ, zero, suc, ◌+◌, ◌-◌, ◌*◌, ◌/◌, ◌%◌, ◌^◌, ◌<◌, ◌≤◌}
use native.Mathlib.Nat.{mod-eq_of_lt}
use native.Mathlib.Omega.{arith}
use lib.Bits.{bit_or, or_shifted}
use lib.Dec.{leb, ltb, eqb}
use lib.IntN.{ℤ, pos, negsuc}
use mir.Syntax.{w8}
use mir.Val.{SFits}
use borrow.Author.Tests.{ltb-true, ltb-false, leb-true, eqb-true, lt-ltb, le-ltb, le-leb, eq-eqb}
use Rattle.std.proofs.lemmas.Bool.{and_parts, and_from}
use Rattle.bits.specs.declared.NumberFlag.{NumberFlag}
use Rattle.bits.specs.declared.Nibbles.{Nibbles}
use Rattle.bits.specs.Packed.{number_flag_of, number_flag_byte, number_flag_ok, number_flag_valid, nibbles_of, nibbles_byte, nibbles_valid, signed_of, signed_byte}

-- ---- tests

pub and_left : (a b : Bool) → a && b ≡ true → a ≡ true
and_left a b h = (and_parts a b h).0

pub and_right : (a b : Bool) → a && b ≡ true → b ≡ true
and_right a b h = (and_parts a b h).1

pub and_both : (a b : Bool) → a ≡ true → b ≡ true → a && b ≡ true
and_both = and_from

-- ---- packing: a number shifted by k, and one of k bits under it

pub packed : (a k b : ℕ) → a * 2 ^ k < 256 → b < 2 ^ k → bit_or (a * 2 ^ k % 256) b ≡ a * 2 ^ k + b
packed a k b h l = rw (mod-eq_of_lt h) (or_shifted a k b l)

-- ---- a number and a flag

pub number-flag-low : (c : NumberFlag) → number_flag_valid c ≡ true → c.number ≤ 2
unfolding number_flag_valid
number-flag-low c h = leb-true _ _ h

same-number-flag : (m n : ℕ) (f g : Bool) → m ≡ n → f ≡ g → ◌≡◌ {A = NumberFlag} (record { number = m; flag = f }) (record { number = n; flag = g })
same-number-flag m n f g p q = rw (p, q)

number-flag-of-parts : (n : ℕ) (f : Bool) → n ≤ 2 → number_flag_of (n + cond f 4 0) ≡ record { number = n; flag = f }
unfolding number_flag_of
number-flag-of-parts n true h =
    let z : (n + 4) / 4 % 2 ≡ 1 = omega arith in
    same-number-flag _ n _ true (omega arith) (rw z)
number-flag-of-parts n false h =
    let z : (n + 0) / 4 % 2 ≡ 0 = omega arith in
    same-number-flag _ n _ false (omega arith) (rw z)

flag-step : (f : Bool) → cond f 4 0 % 4 ≡ 0
flag-step true = refl
flag-step false = refl

flag-most : (f : Bool) → cond f 4 0 ≤ 4
flag-most true = omega arith
flag-most false = omega arith

flag-bit : (x : ℕ) → x < 2 → cond (eqb x 1) 4 0 ≡ 4 * x
flag-bit zero h = refl
flag-bit (suc zero) h = refl
flag-bit (suc (suc x)) h = absurd (omega arith)

pub number-flag-returns : (c : NumberFlag) → number_flag_valid c ≡ true → number_flag_of (number_flag_byte c) ≡ c
unfolding number_flag_byte
number-flag-returns c h = number-flag-of-parts c.number c.flag (number-flag-low c h)

pub number-flag-ok : (c : NumberFlag) → number_flag_valid c ≡ true → number_flag_ok (number_flag_byte c) ≡ true
unfolding number_flag_byte number_flag_ok
number-flag-ok c h =
    let b : ℕ = c.number + cond c.flag 4 0 in
    let n : b % 4 ≤ 2 = omega (arith, number-flag-low c h, flag-step c.flag) in
    let z : b / 8 ≡ 0 = omega (arith, number-flag-low c h, flag-most c.flag) in
    and_both (leb (b % 4) 2) (eqb (b / 8) 0) (le-leb _ _ n) (eq-eqb _ _ z)

pub number_flag_byte-of : (b : ℕ) → number_flag_ok b ≡ true → b < 256 → number_flag_byte (number_flag_of b) ≡ b
unfolding number_flag_byte number_flag_of number_flag_ok
number_flag_byte-of b h l =
    let z : b / 8 ≡ 0 = eqb-true _ 0 (and_right (leb (b % 4) 2) _ h) in
    rw (flag-bit (b / 4 % 2) (omega arith)) (omega arith)

pub number_flag_valid-of : (b : ℕ) → number_flag_ok b ≡ true → number_flag_valid (number_flag_of b) ≡ true
unfolding number_flag_valid number_flag_of number_flag_ok
number_flag_valid-of b h = and_left _ (eqb (b / 8) 0) h

pub number_flag_byte-lt : (c : NumberFlag) → number_flag_valid c ≡ true → number_flag_byte c < 256
unfolding number_flag_byte
number_flag_byte-lt c h = omega (arith, number-flag-low c h, flag-most c.flag)

-- ---- nibbles

pub nibble-high : (h : Nibbles) → nibbles_valid h ≡ true → h.high ≤ 15
unfolding nibbles_valid
nibble-high h g = leb-true _ 15 (and_left _ (leb h.low 15) g)

pub nibble-low : (h : Nibbles) → nibbles_valid h ≡ true → h.low ≤ 15
unfolding nibbles_valid
nibble-low h g = leb-true _ 15 (and_right (leb h.high 15) _ g)

same-nibbles : (m n k l : ℕ) → m ≡ n → k ≡ l → ◌≡◌ {A = Nibbles} (record { high = m; low = k }) (record { high = n; low = l })
same-nibbles m n k l p q = rw (p, q)

pub nibbles-returns : (h : Nibbles) → nibbles_valid h ≡ true → nibbles_of (nibbles_byte h) ≡ h
unfolding nibbles_of nibbles_byte
nibbles-returns h g =
    let l : h.low ≤ 15 = nibble-low h g in
    same-nibbles _ h.high _ h.low (omega arith) (omega arith)

pub nibbles_byte-of : (b : ℕ) → b < 256 → nibbles_byte (nibbles_of b) ≡ b
unfolding nibbles_byte nibbles_of
nibbles_byte-of b l = omega arith

pub nibbles_valid-of : (b : ℕ) → b < 256 → nibbles_valid (nibbles_of b) ≡ true
unfolding nibbles_valid nibbles_of
nibbles_valid-of b l = and_both _ _ (le-leb (b / 16) 15 (omega arith)) (le-leb (b % 16) 15 (omega arith))

pub nibbles_byte-lt : (h : Nibbles) → nibbles_valid h ≡ true → nibbles_byte h < 256
unfolding nibbles_byte
nibbles_byte-lt h g = omega (arith, nibble-high h g, nibble-low h g)

-- ---- signed bytes

-- the range of an i8
abbrev pub i8_range : ℤ → Type 0
i8_range (pos n) = n < 128
i8_range (negsuc n) = n < 128

-- as a parameter of type i8 has it
pub i8_range-fits : (z : ℤ) → SFits w8 z → i8_range z
i8_range-fits (pos n) f = f.sfits
i8_range-fits (negsuc n) f = f.sfits

-- and as a value that was in a local is asked for, by `to_z-of_z`
pub fits-i8_range : (z : ℤ) → i8_range z → SFits w8 z
fits-i8_range (pos n) r = record { sfits = r }
fits-i8_range (negsuc n) r = record { sfits = r }

pub signed_of-low : (b : ℕ) → b < 128 → signed_of b ≡ pos b
unfolding signed_of
signed_of-low b l = rw (lt-ltb b 128 l)

pub signed_of-high : (b : ℕ) → 128 ≤ b → signed_of b ≡ negsuc (255 - b)
unfolding signed_of
signed_of-high b l = rw (le-ltb b 128 l)

-- by the byte's half
by-half : (P : ℤ → Type 0) (b : ℕ) (t : Bool) → ltb b 128 ≡ t → (b < 128 → P (pos b)) → (128 ≤ b → P (negsuc (255 - b))) → P (signed_of b)
by-half P b true e f g = rw (signed_of-low b (ltb-true b 128 e)) (f (ltb-true b 128 e))
by-half P b false e f g = rw (signed_of-high b (ltb-false b 128 e)) (g (ltb-false b 128 e))

pub signed_of-range : (b : ℕ) → b < 256 → i8_range (signed_of b)
signed_of-range b l = by-half i8_range b (ltb b 128) refl (λ h. h) (λ h. omega arith)

pub signed-returns : (z : ℤ) → i8_range z → signed_of (signed_byte z) ≡ z
unfolding signed_of signed_byte
signed-returns (pos n) r = rw (lt-ltb n 128 r)
signed-returns (negsuc n) r =
    let e : 255 - (255 - n) ≡ n = omega arith in
    rw (le-ltb (255 - n) 128 (omega arith), e)

pub signed_byte-of : (b : ℕ) → b < 256 → signed_byte (signed_of b) ≡ b
unfolding signed_byte
signed_byte-of b l =
    by-half (λ (z : ℤ). signed_byte z ≡ b) b (ltb b 128) refl (λ h. refl) (λ h. omega arith)

pub signed_byte-lt : (z : ℤ) → i8_range z → signed_byte z < 256
unfolding signed_byte
signed_byte-lt (pos n) r = omega arith
signed_byte-lt (negsuc n) r = omega arith
