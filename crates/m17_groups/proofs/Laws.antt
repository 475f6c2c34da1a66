-- A number's text place by place, and group by group.
use Prim.Native.Nat.{ℕ, suc, ◌+◌, ◌-◌, ◌*◌, ◌%◌, ◌/◌, ◌≤◌, ◌<◌}
use mathlib.Core.Path.{◌≡◌, refl}
use mathlib.Core.List.{[], ◌∷◌, ◌++◌}
use mathlib.Core.Logic.{⊎_elim}
use native.Mathlib.Omega.{arith}
use native.Mathlib.Nat.{eq-zero-or-pos}
use lib.ListN.{length, length-append, length-replicate}
use borrow.Author.Tests.{ne_eqb}
use Rattle.fields.specs.Bytes.{zeros}
use Rattle.fields.proofs.Laws.{Long}
use Rattle.m17.specs.Address.{char_of, text_up_to}
use Rattle.m17.proofs.Laws.{text-zero, text-length}
use Rattle.m17_groups.specs.Places.{full, padded, while_rest}

-- ---- one place

pub text-cons : (k n : ℕ) → 0 < n → text_up_to (suc k) n ≡ char_of (n % 40) ∷ text_up_to k (n / 40)
unfolding text_up_to
text-cons k n p = rw (ne_eqb n 0 (omega arith))

pub padded-zero : (k : ℕ) → padded k 0 ≡ zeros k
unfolding padded zeros
padded-zero k = let z : k - 0 ≡ k = omega arith in rw (text-zero k, z)

pub long-padded : (k n : ℕ) → Long (padded k n) k
unfolding padded
long-padded k n =
    let t : length (text_up_to k n) ≤ k = text-length k n in
    record { long = simp (length-append, length-replicate) (omega arith) }

padded-cons : (k r : ℕ) → 0 < r → padded (suc k) r ≡ char_of (r % 40) ∷ padded k (r / 40)
unfolding padded
padded-cons k r p =
    let m : suc k - suc (length (text_up_to k (r / 40))) ≡ k - length (text_up_to k (r / 40)) = omega arith in
    rw (text-cons k r p, m)

pub padded-step : (k r : ℕ) → padded (suc k) r ≡ while_rest r (char_of (r % 40)) ∷ padded k (r / 40)
padded-step k r =
    ⊎_elim
    (λ (e : r ≡ 0). rw e (rw (padded-zero (suc k), padded-zero k) (unfold zeros in refl)))
    (λ (p : 0 < r). rw (ne_eqb r 0 (omega arith)) (padded-cons k r p))
    (eq-zero-or-pos r)

pub count-step : (k r : ℕ) → length (text_up_to (suc k) r) ≡ while_rest r 1 + length (text_up_to k (r / 40))
count-step k r =
    ⊎_elim
    (λ (e : r ≡ 0). rw e (rw (text-zero (suc k), text-zero k)))
    (λ p. rw (ne_eqb r 0 (omega arith), text-cons k r p) (omega arith))
    (eq-zero-or-pos r)

-- ---- a group

-- the three places of a group, and what stands above it
padded-places : (k n : ℕ) → padded (suc (suc (suc k))) n
    ≡ while_rest n (char_of (n % 40)) ∷ while_rest (n / 40) (char_of (n / 40 % 40)) ∷ while_rest (n / 1600) (char_of (n / 1600 % 40)) ∷ padded k (n / 64000)
padded-places k n =
    let b : n / 40 / 40 ≡ n / 1600 = omega arith in
    let c : n / 1600 / 40 ≡ n / 64000 = omega arith in
    rw (padded-step (suc (suc k)) n, padded-step (suc k) (n / 40), b, padded-step k (n / 1600), c)

count-places : (k n : ℕ) → length (text_up_to (suc (suc (suc k))) n) ≡ while_rest n 1 + (while_rest (n / 40) 1 + (while_rest (n / 1600) 1 + length (text_up_to k (n / 64000))))
count-places k n =
    let b : n / 40 / 40 ≡ n / 1600 = omega arith in
    let c : n / 1600 / 40 ≡ n / 64000 = omega arith in
    rw (count-step (suc (suc k)) n, count-step (suc k) (n / 40), b, count-step k (n / 1600), c)

padded-none : (n : ℕ) → padded 0 n ≡ []
unfolding padded text_up_to
padded-none n = refl

count_none : (n : ℕ) → length (text_up_to 0 n) ≡ 0
unfolding text_up_to
count_none n = refl

-- the digits of a number that has a group above its lowest, from what is below: the second and the third
second-digit : (x y : ℕ) → y % 40 ≡ (x * 1600 + y) % 40
second-digit x y = omega arith

third-digit : (x y : ℕ) → y < 40 → y ≡ (x * 40 + y) % 40
third-digit x y h = omega arith

-- a group with another above it
pub padded-full : (k n : ℕ) → 64000 ≤ n → padded (suc (suc (suc k))) n ≡ full (n % 64000) ++ padded k (n / 64000)
padded-full k n h =
    let a : n % 64000 % 40 ≡ n % 40 = omega arith in
    let s : n / 40 ≡ n / 64000 * 1600 + n % 64000 / 40 = omega arith in
    let t : n / 1600 ≡ n / 64000 * 40 + n % 64000 / 1600 = omega arith in
    let b : n % 64000 / 40 % 40 ≡ n / 40 % 40 = rw s (second-digit (n / 64000) (n % 64000 / 40)) in
    let c : n % 64000 / 1600 ≡ n / 1600 % 40 = rw t (third-digit (n / 64000) (n % 64000 / 1600) (omega arith)) in
    rw (a, b, c, padded-places k n, ne_eqb n 0 (omega arith), ne_eqb (n / 40) 0 (omega arith), ne_eqb (n / 1600) 0 (omega arith))

pub count-full : (k n : ℕ) → 64000 ≤ n → length (text_up_to (suc (suc (suc k))) n) ≡ 3 + length (text_up_to k (n / 64000))
count-full k n h =
    rw (count-places k n, ne_eqb n 0 (omega arith), ne_eqb (n / 40) 0 (omega arith), ne_eqb (n / 1600) 0 (omega arith)) (omega arith)

-- the last group: behind it there are zeros
pub padded-last : (k n : ℕ) → n < 64000 → padded (suc (suc (suc k))) n ≡ padded 3 n ++ zeros k
padded-last k n h =
    let z : n / 64000 ≡ 0 = omega arith in
    rw (padded-places k n, padded-places 0 n, z, padded-zero k, padded-none 0)

pub count-last : (k n : ℕ) → n < 64000 → length (text_up_to (suc (suc (suc k))) n) ≡ length (text_up_to 3 n)
count-last k n h =
    let z : n / 64000 ≡ 0 = omega arith in
    rw (count-places k n, count-places 0 n, z, text-zero k, count_none 0)

-- its bytes, as they are written
pub last-places : (g : ℕ) → 0 < g → g < 64000 → padded 3 g ≡ char_of (g % 40) ∷ while_rest (g / 40) (char_of (g / 40 % 40)) ∷ while_rest (g / 1600) (char_of (g / 1600)) ∷ []
last-places g p h =
    let c : g / 1600 % 40 ≡ g / 1600 = omega arith in
    rw (padded-places 0 g, ne_eqb g 0 (omega arith), c, padded-none (g / 64000))

pub last-count : (g : ℕ) → 0 < g → length (text_up_to 3 g) ≡ 1 + while_rest (g / 40) 1 + while_rest (g / 1600) 1
last-count g p = rw (count-places 0 g, ne_eqb g 0 (omega arith), count_none (g / 64000)) (omega arith)
