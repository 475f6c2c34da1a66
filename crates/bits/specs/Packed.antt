-- Bytes that hold more than one value (document 01, "The file"), and signed bytes.
use Rattle.std.specs.Prelude.{ℕ, ◌+◌, ◌-◌, ◌*◌, ◌/◌, ◌%◌, Bool, ◌&&◌, cond, leb, ltb, eqb, ℤ, pos, negsuc}
use Rattle.bits.specs.declared.NumberFlag.{NumberFlag}
use Rattle.bits.specs.declared.Nibbles.{Nibbles}

-- ---- traits and settings (document 02, [5]): a number in bits 0 and 1 (0 to 2), a flag in bit 2, the other five bits zero

unfoldable pub number_flag_of : ℕ → NumberFlag
number_flag_of b = record { number = b % 4; flag = eqb (b / 4 % 2) 1 }

unfoldable pub number_flag_byte : NumberFlag → ℕ
number_flag_byte c = c.number + cond c.flag 4 0

unfoldable pub number_flag_ok : ℕ → Bool
number_flag_ok b = leb (b % 4) 2 && eqb (b / 8) 0

-- a number that the rule allows
unfoldable pub number_flag_valid : NumberFlag → Bool
number_flag_valid c = leb c.number 2

-- ---- the nibbles of a byte: colour codes, access numbers, operation with encryption

unfoldable pub nibbles_of : ℕ → Nibbles
nibbles_of b = record { high = b / 16; low = b % 16 }

unfoldable pub nibbles_byte : Nibbles → ℕ
nibbles_byte h = h.high * 16 + h.low

-- nibbles that a byte can hold
unfoldable pub nibbles_valid : Nibbles → Bool
nibbles_valid h = leb h.high 15 && leb h.low 15

-- ---- a signed byte: from 128 up the byte b means b - 256, and negsuc n is -(n + 1)

unfoldable pub signed_of : ℕ → ℤ
signed_of b = cond (ltb b 128) (pos b) (negsuc (255 - b))

unfoldable pub signed_byte : ℤ → ℕ
signed_byte (pos n) = n
signed_byte (negsuc n) = 255 - n
