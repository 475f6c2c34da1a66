-- The digits of a group, one after the other, by the fraction that is multiplied.
use Prim.Native.Nat.{ℕ, ◌+◌, ◌*◌, ◌/◌, ◌%◌, ◌^◌, ◌<◌}
use mathlib.Core.Path.{◌≡◌, ◌∙◌}
use lib.Bits.{bit_and, and_mask}
use native.Mathlib.Omega.{arith}

-- 40 times a fraction: the digit before the point, and the fraction behind it
pub record Digit (x d rest : ℕ) : Type 0 where
  pub is : x / 2 ^ 32 ≡ d
  pub behind : bit_and x 0xFFFFFFFF ≡ rest

digit : (x d rest : ℕ) → x ≡ d * 2 ^ 32 + rest → rest < 2 ^ 32 → Digit x d rest
digit x d rest e h = let m : x % 2 ^ 32 ≡ rest = omega arith in record { is = omega arith; behind = and_mask x 32 ∙ m }

-- 64,000 × 67,109 is 8,704 more than 2^32: that much of a digit is left behind the point when it has come before it
module _ (g : ℕ) (h : g < 64000) where
  pub third-digit : Digit (g * 67109 * 40) (g / 1600) (g / 1600 * 8704 + g / 40 % 40 * 107374400 + g % 40 * 2684360)
  third-digit = digit _ _ _ (omega arith) (omega arith)

  pub second-digit : Digit (bit_and (g * 67109 * 40) 0xFFFFFFFF * 40) (g / 40 % 40) (g / 1600 * 348160 + g / 40 % 40 * 8704 + g % 40 * 107374400)
  second-digit = rw third-digit.behind (digit _ _ _ (omega arith) (omega arith))

  pub first-digit : Digit (bit_and (bit_and (g * 67109 * 40) 0xFFFFFFFF * 40) 0xFFFFFFFF * 40) (g % 40) (g / 1600 * 13926400 + g / 40 % 40 * 348160 + g % 40 * 8704)
  first-digit = rw second-digit.behind (digit _ _ _ (omega arith) (omega arith))
