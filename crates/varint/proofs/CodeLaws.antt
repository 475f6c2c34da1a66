-- Laws for the code: a number at a place of a list, byte by byte, and written there.
use Prim.Native.Nat.{ℕ, zero, suc, ◌+◌, ◌*◌, ◌-◌, ◌/◌, ◌%◌, ◌≤◌, ◌<◌}
use mathlib.Core.Path.{◌≡◌, refl, ◌∙◌}
use mathlib.Core.Bool.{Bool, true, false}
use mathlib.Core.List.{List, [], ◌∷◌}
use native.Mathlib.Omega.{arith}
use native.Mathlib.Numerals.{add-one}
use lib.ListN.{length, get_or, drop, set, length-set, drop_of_length-le}
use lib.Seq.{drop-cons}
use lib.Dec.{eqb}
use borrow.Author.Tests.{ne_eqb}
use Rattle.fields.specs.Bytes.{over}
use Rattle.fields.proofs.Laws.{over-byte, over-two, over-three}
use Rattle.varint.specs.Number.{number_bytes, with_group, groups_at, at_most, number_at, found}
use Rattle.std.specs.Prelude.{None}
use Rattle.varint.proofs.Laws.{at_last, at_zero, at_more, with-group, and-false, and-not-true, most-within, most-past}
use Rattle.varint.proofs.Laws.{number-one, number-two, number-three, length-one, length-two, length-three}

-- ---- the number at a place, byte by byte

-- the bytes from k on
from_one : (s : List ℕ) (k : ℕ) → k < length s → drop k s ≡ get_or s k 0 ∷ drop (k + 1) s
from_one s k h = drop-cons s k 0 h ∙ rw add-one

from-two : (s : List ℕ) (k : ℕ) → k + 1 < length s → drop k s ≡ get_or s k 0 ∷ get_or s (k + 1) 0 ∷ drop (k + 2) s
from-two s k h =
    let e : k + 1 + 1 ≡ k + 2 = omega arith in
    from_one s k (omega arith) ∙ rw (from_one s (k + 1) h, e)

from-three : (s : List ℕ) (k : ℕ) → k + 2 < length s
    → drop k s ≡ get_or s k 0 ∷ get_or s (k + 1) 0 ∷ get_or s (k + 2) 0 ∷ drop (k + 3) s
from-three s k h =
    let e : k + 2 + 1 ≡ k + 3 = omega arith in
    from-two s k (omega arith) ∙ rw (from_one s (k + 2) h, e)

most-broken : (limit : ℕ) → at_most limit None ≡ None
unfolding at_most
most-broken limit = refl

with-broken : (low : ℕ) → with_group low None ≡ None
unfolding with_group
with-broken low = refl

none_left : (n : ℕ) (alone : Bool) → groups_at n alone [] ≡ None
unfolding groups_at
none_left zero alone = refl
none_left (suc n) alone = refl

more-broken : (n : ℕ) (alone : Bool) (b : ℕ) (s : List ℕ) → 128 ≤ b → groups_at n false s ≡ None
    → groups_at (suc n) alone (b ∷ s) ≡ None
more-broken n alone b s h e = rw (at_more n alone b s h, e, with-broken)

more-number : (n : ℕ) (alone : Bool) (b : ℕ) (s : List ℕ) (x m : ℕ) → 128 ≤ b → groups_at n false s ≡ found x m
    → groups_at (suc n) alone (b ∷ s) ≡ found (b - 128 + 128 * x) (m + 1)
more-number n alone b s x m h e = rw (at_more n alone b s h, e, with-group)

last-valid : (n b : ℕ) (s : List ℕ) → 0 < b → b < 128 → groups_at (suc n) false (b ∷ s) ≡ found b 1
last-valid n b s h g =
    let z : b ≡ 0 → ⊥ = λ e. omega arith in
    at_last n false b s g (and-false (eqb b 0) true (ne_eqb b 0 z))

-- what stops a number: no byte left, or a last group of zero
last-bad : (n : ℕ) (s : List ℕ) → groups_at (suc n) false (0 ∷ s) ≡ None
last-bad n s = at_zero n false 0 s (omega arith) refl

broken-by : (s t : List ℕ) → s ≡ t → groups_at 3 true t ≡ None → number_at s ≡ None
unfolding number_at
broken-by s t e f = rw (e, f, most-broken)

-- what the bytes read so far say of the number at k
pub read_end : (s : List ℕ) (k : ℕ) → length s ≤ k → number_at (drop k s) ≡ None
read_end s k h = broken-by (drop k s) [] (drop_of_length-le s h) (none_left 3 true)

pub read_one : (s : List ℕ) (k : ℕ) → k < length s → get_or s k 0 < 128 → number_at (drop k s) ≡ found (get_or s k 0) 1
unfolding number_at
read_one s k h g =
    let a = get_or s k 0 in
    rw (from_one s k h, at_last 2 true a (drop (k + 1) s) g (and-not-true (eqb a 0))) (most-within 1_048_576 a 1 (omega arith))

pub read_cut : (s : List ℕ) (k : ℕ) → k < length s → length s ≤ k + 1 → 128 ≤ get_or s k 0 → number_at (drop k s) ≡ None
read_cut s k h l g =
    let a = get_or s k 0 in
    broken-by (drop k s) (a ∷ []) (from_one s k h ∙ rw (drop_of_length-le s l)) (more-broken 2 true a [] g (none_left 2 false))

pub read_zero : (s : List ℕ) (k : ℕ) → k + 1 < length s → 128 ≤ get_or s k 0 → get_or s (k + 1) 0 ≡ 0 → number_at (drop k s) ≡ None
read_zero s k h g z =
    let u = drop (k + 2) s in
    broken-by (drop k s) (get_or s k 0 ∷ 0 ∷ u) (from-two s k h ∙ rw z) (more-broken 2 true (get_or s k 0) (0 ∷ u) g (last-bad 1 u))

pub read_two : (s : List ℕ) (k : ℕ) → k + 1 < length s → 128 ≤ get_or s k 0 → get_or s k 0 < 256 → 0 < get_or s (k + 1) 0
    → get_or s (k + 1) 0 < 128 → number_at (drop k s) ≡ found (get_or s k 0 - 128 + 128 * get_or s (k + 1) 0) 2
unfolding number_at
read_two s k h g f i j =
    let a = get_or s k 0 in
    let b = get_or s (k + 1) 0 in
    let u = drop (k + 2) s in
    rw (from-two s k h, more-number 2 true a (b ∷ u) b 1 g (last-valid 1 b u i j))
    (most-within 1_048_576 (a - 128 + 128 * b) 2 (omega arith))

pub read-cut_two : (s : List ℕ) (k : ℕ) → k + 1 < length s → length s ≤ k + 2 → 128 ≤ get_or s k 0 → 128 ≤ get_or s (k + 1) 0
    → number_at (drop k s) ≡ None
read-cut_two s k h l g f =
    let a = get_or s k 0 in
    let b = get_or s (k + 1) 0 in
    broken-by (drop k s) (a ∷ b ∷ []) (from-two s k h ∙ rw (drop_of_length-le s l))
    (more-broken 2 true a (b ∷ []) g (more-broken 1 false b [] f (none_left 1 false)))

-- three bytes, the first two with their top bits
three-broken : (s : List ℕ) (k : ℕ) → k + 2 < length s → 128 ≤ get_or s k 0 → 128 ≤ get_or s (k + 1) 0
    → groups_at 1 false (get_or s (k + 2) 0 ∷ drop (k + 3) s) ≡ None → number_at (drop k s) ≡ None
three-broken s k h g f z =
    let a = get_or s k 0 in
    let b = get_or s (k + 1) 0 in
    let u = get_or s (k + 2) 0 ∷ drop (k + 3) s in
    broken-by (drop k s) (a ∷ b ∷ u) (from-three s k h) (more-broken 2 true a (b ∷ u) g (more-broken 1 false b u f z))

pub read-zero_three : (s : List ℕ) (k : ℕ) → k + 2 < length s → 128 ≤ get_or s k 0 → 128 ≤ get_or s (k + 1) 0 → get_or s (k + 2) 0 ≡ 0
    → number_at (drop k s) ≡ None
read-zero_three s k h g f z = three-broken s k h g f (rw z (last-bad 0 (drop (k + 3) s)))

pub read_long : (s : List ℕ) (k : ℕ) → k + 2 < length s → 128 ≤ get_or s k 0 → 128 ≤ get_or s (k + 1) 0 → 128 ≤ get_or s (k + 2) 0
    → number_at (drop k s) ≡ None
read_long s k h g f z =
    three-broken s k h g f (more-broken 0 false (get_or s (k + 2) 0) (drop (k + 3) s) z (unfold groups_at in refl))

-- the number that three bytes are
abbrev pub three_bytes : List ℕ → ℕ → ℕ
three_bytes s k = get_or s k 0 - 128 + 128 * (get_or s (k + 1) 0 - 128 + 128 * get_or s (k + 2) 0)

three-number : (s : List ℕ) (k : ℕ) → k + 2 < length s → 128 ≤ get_or s k 0 → 128 ≤ get_or s (k + 1) 0 → 0 < get_or s (k + 2) 0
    → get_or s (k + 2) 0 < 128 → number_at (drop k s) ≡ at_most 1_048_576 (found (three_bytes s k) 3)
unfolding number_at
three-number s k h g f i j =
    let a = get_or s k 0 in
    let b = get_or s (k + 1) 0 in
    let c = get_or s (k + 2) 0 in
    let u = drop (k + 3) s in
    rw (
      from-three s k h,
      more-number 2 true a (b ∷ c ∷ u) (b - 128 + 128 * c) 2 g (more-number 1 false b (c ∷ u) c 1 f (last-valid 0 c u i j)),
    )

pub read_large : (s : List ℕ) (k : ℕ) → k + 2 < length s → 128 ≤ get_or s k 0 → 128 ≤ get_or s (k + 1) 0 → 0 < get_or s (k + 2) 0
    → get_or s (k + 2) 0 < 128 → 1_048_576 < three_bytes s k → number_at (drop k s) ≡ None
read_large s k h g f i j l = three-number s k h g f i j ∙ most-past 1_048_576 (three_bytes s k) 3 l

pub read_three : (s : List ℕ) (k : ℕ) → k + 2 < length s → 128 ≤ get_or s k 0 → 128 ≤ get_or s (k + 1) 0 → 0 < get_or s (k + 2) 0
    → get_or s (k + 2) 0 < 128 → three_bytes s k ≤ 1_048_576 → number_at (drop k s) ≡ found (three_bytes s k) 3
read_three s k h g f i j l = three-number s k h g f i j ∙ most-within 1_048_576 (three_bytes s k) 3 l

-- what reading a number takes
pub ruleset readings =
    (read_end, read_one, read_cut, read_zero, read_two, read-cut_two, read-zero_three, read_long, read_large, read_three)

-- ---- a number written at a place

pub put_one : (d : List ℕ) (k x : ℕ) → x < 128 → k + length (number_bytes x) ≤ length d → set d k x ≡ over d k (number_bytes x)
put_one d k x h g =
    rw (number-one x h) (over-byte d k x (omega (arith, length-one x h)))

pub put_two : (d : List ℕ) (k x : ℕ) → 128 ≤ x → x < 16_384 → k + length (number_bytes x) ≤ length d
    → set (set d k (128 + x % 128)) (k + 1) (x / 128) ≡ over d k (number_bytes x)
put_two d k x h f g =
    rw (number-two x h f) (over-two d k (128 + x % 128) (x / 128) (omega (arith, length-two x h f)))

pub put_three : (d : List ℕ) (k x : ℕ) → 16_384 ≤ x → x ≤ 1_048_576 → k + length (number_bytes x) ≤ length d
    → set (set (set d k (128 + x % 128)) (k + 1) (128 + x / 128 % 128)) (k + 2) (x / 16_384) ≡ over d k (number_bytes x)
put_three d k x h f g =
    rw (number-three x h f) (over-three d k (128 + x % 128) (128 + x / 128 % 128) (x / 16_384) (omega (arith, length-three x h f)))

-- what writing a number takes
pub ruleset written = (put_one, put_two, put_three, length-one, length-two, length-three, length-set)
