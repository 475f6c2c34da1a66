-- Laws of the byte that is moved: what it held by the legacy reading it holds by the new one, valid or not; no two become the same.
use Prim.Native.Nat.{ℕ, ◌+◌, ◌*◌, ◌/◌, ◌%◌, ◌<◌}
use mathlib.Core.Path.{◌≡◌, refl, sym, ap, ◌∙◌}
use mathlib.Core.Bool.{true}
use native.Mathlib.Omega.{arith}
use lib.Dec.{leb}
use borrow.Author.Tests.{eqb-true}
use Rattle.bits.specs.Packed.{number_flag_of, number_flag_ok}
use Rattle.bits.proofs.Laws.{and_right}
use Rattle.legacy.specs.Reading.{legacy_number_flag_of, legacy_number_flag_ok}
use Rattle.legacy.specs.Migration.{migrated_byte}

pub migrated-lt : (b : ℕ) → b < 256 → migrated_byte b < 256
unfolding migrated_byte
migrated-lt b h = omega arith

pub migrated-zero : migrated_byte 0 ≡ 0
unfolding migrated_byte
migrated-zero = refl

-- 0, which a cut record has there, is the same by both readings
pub zero_ok : number_flag_ok 0 ≡ legacy_number_flag_ok 0
unfolding number_flag_ok legacy_number_flag_ok
zero_ok = refl

pub zero_of : number_flag_of 0 ≡ legacy_number_flag_of 0
unfolding number_flag_of legacy_number_flag_of
zero_of = refl

-- where the number, the flag and the other bits stand
number_at : (b : ℕ) → b < 256 → migrated_byte b % 4 ≡ b / 64
unfolding migrated_byte
number_at b h = omega arith

flag_at : (b : ℕ) → b < 256 → migrated_byte b / 4 % 2 ≡ b / 32 % 2
unfolding migrated_byte
flag_at b h = by (b % 32) (b / 32 % 2) (b / 64) (omega arith) (omega arith)
  where
    by : (r f n : ℕ) → f < 2 → n < 4 → (r * 8 + (f * 4 + n)) / 4 % 2 ≡ f
    by r f n g l =
        let e : (r * 8 + (f * 4 + n)) / 4 ≡ r * 2 + f = omega arith in
        rw e (omega arith)

rest_at : (b : ℕ) → b < 256 → migrated_byte b / 8 ≡ b % 32
unfolding migrated_byte
rest_at b h = omega arith

-- valid just where it was
pub migrated-ok : (b : ℕ) → b < 256 → number_flag_ok (migrated_byte b) ≡ legacy_number_flag_ok b
unfolding number_flag_ok legacy_number_flag_ok
migrated-ok b h = rw (number_at b h, rest_at b h)

-- and it reads the same
pub migrated-of : (b : ℕ) → b < 256 → number_flag_of (migrated_byte b) ≡ legacy_number_flag_of b
unfolding number_flag_of legacy_number_flag_of
migrated-of b h = rw (number_at b h, flag_at b h)

-- the byte that was moved
abbrev restored : ℕ → ℕ
restored m = m % 4 * 64 + (m / 4 % 2 * 32 + m / 8)

restored-migrated : (b : ℕ) → b < 256 → restored (migrated_byte b) ≡ b
restored-migrated b h =
    let e : b / 64 * 64 + (b / 32 % 2 * 32 + b % 32) ≡ b = omega arith in
    rw (number_at b h, flag_at b h, rest_at b h) e

pub migrated-one : (a b : ℕ) → a < 256 → b < 256 → migrated_byte a ≡ migrated_byte b → a ≡ b
migrated-one a b g h e = sym (restored-migrated a g) ∙ ap restored e ∙ restored-migrated b h

-- valid by both readings is 0 alone
pub both_zero : (b : ℕ) → b < 256 → number_flag_ok b ≡ true → legacy_number_flag_ok b ≡ true → b ≡ 0
unfolding number_flag_ok legacy_number_flag_ok
both_zero b h n l =
    let x : b / 8 ≡ 0 = eqb-true _ 0 (and_right (leb (b % 4) 2) _ n) in
    let y : b % 32 ≡ 0 = eqb-true _ 0 (and_right (leb (b / 64) 2) _ l) in
    omega arith
