-- A table's rule, proved once: a test that is computed at each entry, and the law that turns it into the rule.
use Prim.Native.Nat.{ℕ, zero, suc, ◌+◌, ◌<◌}
use mathlib.Core.Bool.{Bool, true, false, cond}
use mathlib.Core.List.{List}
use mathlib.Core.Logic.{⊎_elim}
use native.Mathlib.Omega.{arith}
use native.Mathlib.Nat.{eq-or-lt_of_le, not-suc-le-zero}
use lib.ListN.{get_or}
use lib.Dec.{T, eqb, eqb→eq}
use Rattle.fields.specs.Table.{Table}

-- ---- a rule of every number below n, by one computed test

unfoldable pub every : (ℕ → Bool) → ℕ → Bool
every f zero = true
every f (suc n) = cond (f n) (every f n) false

cond-left : (a b : Bool) → T (cond a b false) → T a
cond-left true b t = tt
cond-left false b t = t

cond-right : (a b : Bool) → T (cond a b false) → T b
cond-right true b t = t
cond-right false b t = absurd t

pub below : (f : ℕ → Bool) (n : ℕ) → T (every f n) → (k : ℕ) → k < n → T (f k)
unfolding every
below f zero t k h = absurd (not-suc-le-zero h)
below f (suc n) t k h =
    ⊎_elim
    (λ e. rw e (cond-left (f n) (every f n) t))
    (λ l. below f n (cond-right (f n) (every f n) t) k l)
    (eq-or-lt_of_le (omega arith))

-- a table that passes at each of its n entries
pub table-right : (f : ℕ → ℕ) (low n : ℕ) {t : List ℕ} → T (every (λ (k : ℕ). eqb (get_or t k 0) (f (low + k))) n) → Table f low n t
table-right f low n {t} r = record { entry = λ k h. eqb→eq (get_or t k 0) (f (low + k)) (below (λ (k : ℕ). eqb (get_or t k 0) (f (low + k))) n r k h) }
