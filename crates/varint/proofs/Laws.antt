-- Laws of numbers in groups of seven bits, out of their bytes and back.
use Prim.Native.Nat.{ℕ, zero, suc, ◌+◌, ◌*◌, ◌-◌, ◌/◌, ◌%◌, ◌^◌, ◌≤◌, ◌<◌}
use mathlib.Core.Path.{◌≡◌, refl, ap, sym, ◌∙◌}
use mathlib.Core.Bool.{Bool, true, false, true≢false, cond, not, ◌&&◌}
use mathlib.Core.Logic.{◌⊎◌, inl, inr, ⊎_elim}
use mathlib.Core.List.{List, [], ◌∷◌, ◌++◌}
use native.Mathlib.Omega.{arith}
use native.Mathlib.Numerals.{add-one}
use native.Mathlib.Nat.{pow-succ', one-le-pow, div-div-eq-div-mul}
use lib.ListN.{length, take}
use lib.Dec.{leb, ltb, eqb}
use borrow.Author.Tests.{lt-ltb, le-ltb, ltb-true, ltb-false, le-leb, lt-leb, leb-true, ne_eqb}
use Rattle.fields.proofs.Laws.{AllBytes, bytes-nil, bytes-cons}
use Rattle.varint.specs.Number.{groups, number_bytes, with_group, groups_at, at_most, number_at, found}
use Rattle.varint.specs.declared.Number.{Number}
use Rattle.std.specs.Prelude.{Option, Some, None}
use Rattle.std.proofs.lemmas.Option.{same_Some}

-- ---- groups of seven bits, one at a time

groups-last : (n x : ℕ) → x < 128 → groups (suc n) x ≡ x ∷ []
unfolding groups
groups-last n x h = rw (lt-ltb x 128 h)

groups-more : (n x : ℕ) → 128 ≤ x → groups (suc n) x ≡ (128 + x % 128) ∷ groups n (x / 128)
unfolding groups
groups-more n x h = rw (le-ltb x 128 h)

pub at_last : (n : ℕ) (alone : Bool) (b : ℕ) (s : List ℕ) → b < 128 → eqb b 0 && not alone ≡ false
    → groups_at (suc n) alone (b ∷ s) ≡ found b 1
unfolding groups_at
at_last n alone b s h g = rw (lt-ltb b 128 h, g)

pub at_zero : (n : ℕ) (alone : Bool) (b : ℕ) (s : List ℕ) → b < 128 → eqb b 0 && not alone ≡ true
    → groups_at (suc n) alone (b ∷ s) ≡ None
unfolding groups_at
at_zero n alone b s h g = rw (lt-ltb b 128 h, g)

pub at_more : (n : ℕ) (alone : Bool) (b : ℕ) (s : List ℕ) → 128 ≤ b
    → groups_at (suc n) alone (b ∷ s) ≡ with_group (b - 128) (groups_at n false s)
unfolding groups_at
at_more n alone b s h = rw (le-ltb b 128 h)

pub with-group : (low x n : ℕ) → with_group low (found x n) ≡ found (low + 128 * x) (n + 1)
unfolding with_group
with-group low x n = refl

pub and-false : (t u : Bool) → t ≡ false → t && u ≡ false
and-false t u h = rw h

below_by : (x n : ℕ) (t : Bool) → ltb x n ≡ t → (x < n) ⊎ (n ≤ x)
below_by x n true e = inl (ltb-true x n e)
below_by x n false e = inr (ltb-false x n e)

pub below_or : (x n : ℕ) → (x < n) ⊎ (n ≤ x)
below_or x n = below_by x n (ltb x n) refl

above_zero : (y : ℕ) → eqb y 0 && not false ≡ false → 1 ≤ y
above_zero zero h = absurd (true≢false h)
above_zero (suc y) h = omega arith

-- what was written is read again
groups-again : (n x : ℕ) (alone : Bool) (s : List ℕ) → x < 128 ^ suc n → eqb x 0 && not alone ≡ false
    → groups_at (suc n) alone (groups (suc n) x ++ s) ≡ found x (length (groups (suc n) x))
groups-again zero x alone s h g =
    let lo : x < 128 = h in
    rw (groups-last 0 x lo, at_last 0 alone x s lo g)
groups-again (suc n) x alone s h g =
    ⊎_elim
    (λ lo. rw (groups-last (suc n) x lo, at_last (suc n) alone x s lo g))
    (λ hi.
    let b : 128 ≤ 128 + x % 128 = omega arith in
    let f : x < 128 * 128 ^ suc n = rw pow-succ' at h in
    let small : x / 128 < 128 ^ suc n = omega arith in
    let some : x / 128 ≡ 0 → ⊥ = λ z. omega arith in
    let r : groups_at (suc n) false (groups (suc n) (x / 128) ++ s) ≡ found (x / 128) (length (groups (suc n) (x / 128))) =
    groups-again n (x / 128) false s small (and-false (eqb (x / 128) 0) true (ne_eqb (x / 128) 0 some))
    in
    let l : 128 + x % 128 - 128 ≡ x % 128 = omega arith in
    let d : x % 128 + 128 * (x / 128) ≡ x = omega arith in
    rw (groups-more (suc n) x hi, at_more (suc n) alone (128 + x % 128) (groups (suc n) (x / 128) ++ s) b, r, l, with-group, d, add-one))
    (below_or x 128)

pub same-found : (x n y m : ℕ) → found x n ≡ found y m → (x ≡ y) × (n ≡ m)
same-found x n y m e =
    let r : ◌≡◌ {A = Number} (record { value = x; size = n }) (record { value = y; size = m }) = same_Some _ _ e in
    (ap (λ (z : Number). z.value) r, ap (λ (z : Number). z.size) r)

record Groups (n : ℕ) (alone : Bool) (s : List ℕ) (x m : ℕ) : Type 0 where
  bytes : take m s ≡ groups n x
  size : m ≡ length (groups n x)
  inside : m ≤ length s
  small : x < 128 ^ n
  shortest : eqb x 0 && not alone ≡ false

never : {A : Type 0} (x n : ℕ) → None ≡ found x n → A
never x n e = absurd cc

one-group : (n : ℕ) (alone : Bool) (b : ℕ) (s : List ℕ) (x m : ℕ) (t : Bool) → b < 128 → eqb b 0 && not alone ≡ t
    → groups_at (suc n) alone (b ∷ s) ≡ found x m → Groups (suc n) alone (b ∷ s) x m
one-group n alone b s x m true h z e = never x m (sym (at_zero n alone b s h z) ∙ e)
one-group n alone b s x m false h z e =
    let f = same-found b 1 x m (sym (at_last n alone b s h z) ∙ e) in
    let g : 1 ≤ 128 ^ n = one-le-pow n 128 (omega arith) in
    rw (← f.0, ← f.1) (record {
      bytes = sym (groups-last n b h);
      size = rw (groups-last n b h);
      inside = omega arith;
      small = rw pow-succ' (omega arith);
      shortest = z;
    })

more-groups : (n : ℕ) (alone : Bool) (b : ℕ) (s : List ℕ) (y k : ℕ) → 128 ≤ b → b < 256 → Groups n false s y k
    → Groups (suc n) alone (b ∷ s) (b - 128 + 128 * y) (k + 1)
more-groups n alone b s y k h f g =
    let x = b - 128 + 128 * y in
    let some : 1 ≤ y = above_zero y g.shortest in
    let hi : 128 ≤ x = omega arith in
    let low : 128 + x % 128 ≡ b = omega arith in
    let high : x / 128 ≡ y = omega arith in
    let nz : x ≡ 0 → ⊥ = λ z. omega arith in
    let whole : groups (suc n) x ≡ b ∷ groups n y = rw (groups-more n x hi, low, high) in
    record {
      bytes = rw (add-one, whole, g.bytes);
      size = rw (whole, ← g.size, add-one);
      inside = omega (arith, g.inside);
      small = rw pow-succ' (omega (arith, g.small));
      shortest = and-false (eqb x 0) (not alone) (ne_eqb x 0 nz);
    }

-- what is read is what is written
read_more : (n : ℕ) (alone : Bool) (b : ℕ) (s : List ℕ) (x m : ℕ) (r : Option Number) → 128 ≤ b → b < 256
    → ((y k : ℕ) → r ≡ found y k → Groups n false s y k) → with_group (b - 128) r ≡ found x m → Groups (suc n) alone (b ∷ s) x m
unfolding with_group
read_more n alone b s x m (Some r) h g i e =
    let f = same-found (b - 128 + 128 * r.value) (r.size + 1) x m e in
    rw (← f.0, ← f.1) (more-groups n alone b s r.value r.size h g (i r.value r.size refl))
read_more n alone b s x m None h f i e = never x m e

groups-read : (n : ℕ) (alone : Bool) (s : List ℕ) (x m : ℕ) → AllBytes s → groups_at n alone s ≡ found x m → Groups n alone s x m
groups-read zero alone s x m h e = never x m (unfold groups_at in e)
groups-read (suc n) alone [] x m h e = never x m (unfold groups_at in e)
groups-read (suc n) alone (b ∷ s) x m h e =
    ⊎_elim
    (λ lo. one-group n alone b s x m (eqb b 0 && not alone) lo refl e)
    (λ hi.
    read_more n alone b s x m (groups_at n false s) hi (h 0) (λ y k f. groups-read n false s y k (λ i. h (suc i)) f)
    (sym (at_more n alone b s hi) ∙ e))
    (below_or b 128)

-- where a number that is read lies, whatever the elements are
inside-more : (n : ℕ) (s : List ℕ) (low x m : ℕ) (r : Option Number)
    → ((y k : ℕ) → r ≡ found y k → ((1 ≤ k) × (k ≤ n)) × (k ≤ length s)) → with_group low r ≡ found x m
    → ((1 ≤ m) × (m ≤ suc n)) × (m ≤ suc (length s))
unfolding with_group
inside-more n s low x m (Some r) i e =
    let f = same-found (low + 128 * r.value) (r.size + 1) x m e in
    let j = i r.value r.size refl in
    omega arith
inside-more n s low x m None i e = never x m e

inside_one : (b x m n k : ℕ) (t : Bool) → cond t None (found b 1) ≡ found x m → ((1 ≤ m) × (m ≤ suc n)) × (m ≤ suc k)
inside_one b x m n k true e = never x m e
inside_one b x m n k false e = omega (arith, same-found b 1 x m e)

groups-inside : (n : ℕ) (alone : Bool) (s : List ℕ) (x m : ℕ) → groups_at n alone s ≡ found x m → ((1 ≤ m) × (m ≤ n)) × (m ≤ length s)
unfolding groups_at
groups-inside zero alone s x m e = never x m e
groups-inside (suc n) alone [] x m e = never x m e
groups-inside (suc n) alone (b ∷ s) x m e =
    ⊎_elim
    (λ lo. inside_one b x m n (length s) (eqb b 0 && not alone) (rw (lt-ltb b 128 lo) at e))
    (λ hi. inside-more n s (b - 128) x m (groups_at n false s) (λ y k f. groups-inside n false s y k f) (rw (le-ltb b 128 hi) at e))
    (below_or b 128)

-- ---- numbers

most-by : (limit y k x n : ℕ) (t : Bool) → leb y limit ≡ t → cond t (found y k) None ≡ found x n → (found y k ≡ found x n) × (x ≤ limit)
most-by limit y k x n true l e = (e, omega (arith, same-found y k x n e, leb-true y limit l))
most-by limit y k x n false l e = never x n e

most-number : (limit : ℕ) (r : Option Number) (x n : ℕ) → at_most limit r ≡ found x n → (r ≡ found x n) × (x ≤ limit)
unfolding at_most
most-number limit (Some r) x n e = most-by limit r.value r.size x n (leb r.value limit) refl e
most-number limit None x n e = never x n e

pub most-within : (limit x n : ℕ) → x ≤ limit → at_most limit (found x n) ≡ found x n
unfolding at_most
most-within limit x n h = rw (le-leb x limit h)

pub most-past : (limit x n : ℕ) → limit < x → at_most limit (found x n) ≡ None
unfolding at_most
most-past limit x n h = rw (lt-leb x limit h)

pub and-not-true : (t : Bool) → t && not true ≡ false
and-not-true true = refl
and-not-true false = refl

-- the bytes of numbers, by size
pub number-one : (x : ℕ) → x < 128 → number_bytes x ≡ x ∷ []
unfolding number_bytes
number-one x h = groups-last 2 x h

pub number-two : (x : ℕ) → 128 ≤ x → x < 16_384 → number_bytes x ≡ (128 + x % 128) ∷ x / 128 ∷ []
unfolding number_bytes
number-two x h g = let f : x / 128 < 128 = omega arith in rw (groups-more 2 x h, groups-last 1 (x / 128) f)

pub number-three : (x : ℕ) → 16_384 ≤ x → x ≤ 1_048_576
    → number_bytes x ≡ (128 + x % 128) ∷ (128 + x / 128 % 128) ∷ x / 16_384 ∷ []
unfolding number_bytes
number-three x h g =
    let a : 128 ≤ x = omega arith in
    let b : 128 ≤ x / 128 = omega arith in
    let c : x / 128 / 128 < 128 = omega arith in
    rw (groups-more 2 x a, groups-more 1 (x / 128) b, groups-last 0 (x / 128 / 128) c, div-div-eq-div-mul x 128 128)

pub ruleset sizes = (number-one, number-two, number-three)

-- how many they are
pub length-one : (x : ℕ) → x < 128 → length (number_bytes x) ≡ 1
length-one x h = ap length (number-one x h)

pub length-two : (x : ℕ) → 128 ≤ x → x < 16_384 → length (number_bytes x) ≡ 2
length-two x h g = ap length (number-two x h g)

pub length-three : (x : ℕ) → 16_384 ≤ x → x ≤ 1_048_576 → length (number_bytes x) ≡ 3
length-three x h g = ap length (number-three x h g)

-- a number that was written is read again
pub number-returns : (x : ℕ) (s : List ℕ) → x ≤ 1_048_576 → number_at (number_bytes x ++ s) ≡ found x (length (number_bytes x))
unfolding number_at number_bytes
number-returns x s h =
    let small : x < 128 ^ 3 = omega arith in
    rw (groups-again 2 x true s small (and-not-true (eqb x 0))) (most-within 1_048_576 x (length (groups 3 x)) h)

-- where a number that is read lies, whatever the elements are
pub number-inside : (s : List ℕ) (x n : ℕ) → number_at s ≡ found x n → (((1 ≤ n) × (n ≤ 3)) × (n ≤ length s)) × (x ≤ 1_048_576)
unfolding number_at
number-inside s x n e =
    let m = most-number 1_048_576 (groups_at 3 true s) x n e in
    (groups-inside 3 true s x n m.0, m.1)

-- bytes that are read as a number are the bytes of that number
pub number-canonical : (s : List ℕ) (x n : ℕ) → AllBytes s → number_at s ≡ found x n
    → (take n s ≡ number_bytes x) × (n ≡ length (number_bytes x)) × (x ≤ 1_048_576) × (n ≤ length s)
unfolding number_at number_bytes
number-canonical s x n h e =
    let m = most-number 1_048_576 (groups_at 3 true s) x n e in
    let g = groups-read 3 true s x n h m.0 in
    (g.bytes, g.size, m.1, g.inside)

number-cases : (P : List ℕ → Type 0) (x : ℕ) → x ≤ 1_048_576 → (x < 128 → P (x ∷ []))
    → (128 ≤ x → x < 16_384 → P ((128 + x % 128) ∷ x / 128 ∷ []))
    → (16_384 ≤ x → P ((128 + x % 128) ∷ (128 + x / 128 % 128) ∷ x / 16_384 ∷ [])) → P (number_bytes x)
number-cases P x h one two three =
    ⊎_elim
    (λ lo. rw (number-one x lo) (one lo))
    (λ hi. ⊎_elim (λ mid. rw (number-two x hi mid) (two hi mid)) (λ top. rw (number-three x top h) (three top)) (below_or x 16_384))
    (below_or x 128)

groups-length : (n x : ℕ) → (1 ≤ length (groups (suc n) x)) × (length (groups (suc n) x) ≤ suc n)
groups-length zero x =
    ⊎_elim
    (λ lo. rw (groups-last 0 x lo) (omega arith))
    (λ hi. rw (groups-more 0 x hi) (unfold groups in omega arith))
    (below_or x 128)
groups-length (suc n) x =
    ⊎_elim
    (λ lo. rw (groups-last (suc n) x lo) (omega arith))
    (λ hi. rw (groups-more (suc n) x hi) (omega (arith, groups-length n (x / 128))))
    (below_or x 128)

-- a number takes one to three bytes
pub number_short : (x : ℕ) → (1 ≤ length (number_bytes x)) × (length (number_bytes x) ≤ 3)
unfolding number_bytes
number_short x = groups-length 2 x

pub bytes-number : (x : ℕ) → x ≤ 1_048_576 → AllBytes (number_bytes x)
bytes-number x h =
    number-cases (λ l. AllBytes l) x h
    (λ a. bytes-cons x [] (omega arith) bytes-nil)
    (λ a b. bytes-cons (128 + x % 128) (x / 128 ∷ []) (omega arith) (bytes-cons (x / 128) [] (omega arith) bytes-nil))
    (λ a.
    bytes-cons (128 + x % 128) ((128 + x / 128 % 128) ∷ x / 16_384 ∷ []) (omega arith)
    (bytes-cons (128 + x / 128 % 128) (x / 16_384 ∷ []) (omega arith) (bytes-cons (x / 16_384) [] (omega arith) bytes-nil)))
