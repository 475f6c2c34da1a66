-- Laws of what two lists have in common.
use Prim.Native.Nat.{ℕ, suc, ◌+◌, ◌-◌, ◌≤◌, ◌<◌}
use mathlib.Core.Path.{◌≡◌, refl, ap, sym, ◌∙◌}
use mathlib.Core.Bool.{Bool, true, false}
use mathlib.Core.List.{List, [], ◌∷◌, ◌++◌, append_assoc, reverse, reverse-append, reverse-cons, reverse-reverse}
use native.Mathlib.Omega.{arith}
use native.Mathlib.Numerals.{add-one, one-add}
use native.Mathlib.Nat.{zero-add, suc-add, sub-zero, sub_right_comm}
use lib.ListN.{length, get_or, take, drop, length-drop, length-reverse, take-append-drop}
use lib.Seq.{take_at, take-add, take-suc, take-length, drop-drop, drop-cons}
use lib.Seq.{split_at, get_or_at}
use lib.Bits.{bit_or, bit_xor, or_add_and, xor_add_and, and_le_l, and_le_r}
use lib.Dec.{eqb}
use borrow.Author.Tests.{eqb-true, eqb-false, eq-eqb, ne_eqb}
use Rattle.fields.specs.Bytes.{part}
use Rattle.fields.proofs.Laws.{length_part}
use Rattle.fields.proofs.Laws.{part-suc, part-cons}
use Rattle.affixes.specs.Common.{common_prefix, common_suffix}

-- ---- the comparison of a chunk

pub or-none : (x y : ℕ) → bit_or x y ≡ 0 → (x ≡ 0) × (y ≡ 0)
or-none x y h =
    let f = or_add_and x y in
    let a = and_le_l x y in
    let b = and_le_r x y in
    (omega arith, omega arith)

pub xor-none : (x y : ℕ) → bit_xor x y ≡ 0 → x ≡ y
xor-none x y h = omega (arith, xor_add_and x y, and_le_l x y, and_le_r x y)

-- an iteration of the comparison without an exit: x gathers the bits that differ
pub same_more : (a b : List ℕ) (i j k x : ℕ) → (x ≡ 0 → part a i k ≡ part b j k) → i + k < length a → j + k < length b
    → bit_or x (bit_xor (get_or a (i + k) 0) (get_or b (j + k) 0)) ≡ 0 → part a i (k + 1) ≡ part b j (k + 1)
same_more a b i j k x f g h e =
    let o = or-none x (bit_xor (get_or a (i + k) 0) (get_or b (j + k) 0)) e in
    let z = xor-none (get_or a (i + k) 0) (get_or b (j + k) 0) o.1 in
    rw (add-one, part-suc a i k g, part-suc b j k h, f o.0, z)

pub same-all : (a b : List ℕ) (i j n k x : ℕ) → (x ≡ 0 → part a i k ≡ part b j k) → k ≡ n → eqb x 0 ≡ true → part a i n ≡ part b j n
same-all a b i j n k x f g e = rw (← g) (f (eqb-true x 0 e))

-- ---- the common beginning

pub common_prefix-nil : (a : List ℕ) → common_prefix a [] ≡ 0
unfolding common_prefix
common_prefix-nil [] = refl
common_prefix-nil (x ∷ a) = refl

-- the clauses, as equations
pub common_prefix-same : (x y : ℕ) (a b : List ℕ) → x ≡ y → common_prefix (x ∷ a) (y ∷ b) ≡ suc (common_prefix a b)
unfolding common_prefix
common_prefix-same x y a b e = rw (eq-eqb x y e) (one-add (common_prefix a b))

pub common_prefix-differ : (x y : ℕ) (a b : List ℕ) → (x ≡ y → ⊥) → common_prefix (x ∷ a) (y ∷ b) ≡ 0
unfolding common_prefix
common_prefix-differ x y a b e = rw (ne_eqb x y e)

pub common_prefix-append : (c a b : List ℕ) → common_prefix (c ++ a) (c ++ b) ≡ length c + common_prefix a b
common_prefix-append [] a b = sym (zero-add (common_prefix a b))
common_prefix-append (x ∷ c) a b = common_prefix-same x x (c ++ a) (c ++ b) refl ∙ rw (common_prefix-append c a b, suc-add)

pub common_prefix-self : (a : List ℕ) → common_prefix a a ≡ length a
unfolding common_prefix
common_prefix-self [] = refl
common_prefix-self (x ∷ a) = common_prefix-same x x a a refl ∙ ap suc (common_prefix-self a)

-- n is the length of the longest common beginning
pub record Begins (a b : List ℕ) (n : ℕ) : Type 0 where
  pub left : n ≤ length a
  pub right : n ≤ length b
  pub same : take n a ≡ take n b
  pub stops : n < length a → n < length b → get_or a n 0 ≡ get_or b n 0 → ⊥

begins-none : (a b : List ℕ) → (0 < length a → 0 < length b → get_or a 0 0 ≡ get_or b 0 0 → ⊥) → Begins a b 0
begins-none a b f = record { left = omega arith; right = omega arith; same = refl; stops = f }

begins-more : (x : ℕ) (a b : List ℕ) (n : ℕ) → Begins a b n → Begins (x ∷ a) (x ∷ b) (suc n)
begins-more x a b n h =
    record {
      left = omega arith;
      right = omega arith;
      same = ap (λ (l : List ℕ). x ∷ l) h.same;
      stops = λ f g e. h.stops (omega arith) (omega arith) e;
    }

begins-test : (x y : ℕ) (a b : List ℕ) (t : Bool) → eqb x y ≡ t → Begins a b (common_prefix a b)
    → Begins (x ∷ a) (y ∷ b) (common_prefix (x ∷ a) (y ∷ b))
begins-test x y a b true e h =
    let f : x ≡ y = eqb-true x y e in
    rw (common_prefix-same x y a b f, ← f) (begins-more x a b (common_prefix a b) h)
begins-test x y a b false e h =
    let f = eqb-false x y e in
    rw (common_prefix-differ x y a b f) (begins-none (x ∷ a) (y ∷ b) (λ _ _ g. f g))

pub common_prefix-begins : (a b : List ℕ) → Begins a b (common_prefix a b)
unfolding common_prefix
common_prefix-begins [] b = begins-none [] b (λ f _ _. omega arith)
common_prefix-begins (x ∷ a) [] = begins-none (x ∷ a) [] (λ _ f _. omega arith)
common_prefix-begins (x ∷ a) (y ∷ b) = begins-test x y a b (eqb x y) refl (common_prefix-begins a b)

pub common_prefix-left : (a b : List ℕ) → common_prefix a b ≤ length a
common_prefix-left a b = (common_prefix-begins a b).left

pub common_prefix-right : (a b : List ℕ) → common_prefix a b ≤ length b
common_prefix-right a b = (common_prefix-begins a b).right

pub take-common_prefix : (a b : List ℕ) → take (common_prefix a b) a ≡ take (common_prefix a b) b
take-common_prefix a b = (common_prefix-begins a b).same

pub common_prefix-stops : (a b : List ℕ) → common_prefix a b < length a → common_prefix a b < length b
    → get_or a (common_prefix a b) 0 ≡ get_or b (common_prefix a b) 0 → ⊥
common_prefix-stops a b = (common_prefix-begins a b).stops

-- the scan: nothing read yet, m more bytes agree
pub start_none : (a b : List ℕ) → common_prefix a b ≡ 0 + common_prefix (drop 0 a) (drop 0 b)
start_none a b = sym (zero-add (common_prefix a b))

pub start-more : (a b : List ℕ) (i m : ℕ) → common_prefix a b ≡ i + common_prefix (drop i a) (drop i b) → part a i m ≡ part b i m
    → i + m ≤ length a → common_prefix a b ≡ i + m + common_prefix (drop (i + m) a) (drop (i + m) b)
start-more a b i m e f h =
    let l : length (part a i m) ≡ m = length_part a i m h in
    let p : drop i a ≡ part a i m ++ drop (i + m) a = sym (take-append-drop m (drop i a)) ∙ rw drop-drop in
    let q : drop i b ≡ part a i m ++ drop (i + m) b = sym (take-append-drop m (drop i b)) ∙ rw (drop-drop, f) in
    let g = common_prefix-append (part a i m) (drop (i + m) a) (drop (i + m) b) in
    let r : common_prefix (drop i a) (drop i b) ≡ m + common_prefix (drop (i + m) a) (drop (i + m) b) = rw (p, q, g, l) in
    omega arith

-- one more
same-one : (a b : List ℕ) (i j : ℕ) → i < length a → j < length b → get_or a i 0 ≡ get_or b j 0 → part a i 1 ≡ part b j 1
same-one a b i j f g h = part-cons a i 0 f ∙ ap (λ (x : ℕ). x ∷ []) h ∙ sym (part-cons b j 0 g)

pub start-byte : (a b : List ℕ) (i : ℕ) → common_prefix a b ≡ i + common_prefix (drop i a) (drop i b) → i < length a → i < length b
    → get_or a i 0 ≡ get_or b i 0 → common_prefix a b ≡ i + 1 + common_prefix (drop (i + 1) a) (drop (i + 1) b)
start-byte a b i e f g h = start-more a b i 1 e (same-one a b i i f g h) (omega arith)

-- two bytes differ
pub start-stop : (a b : List ℕ) (i : ℕ) → common_prefix a b ≡ i + common_prefix (drop i a) (drop i b) → i < length a → i < length b
    → (get_or a i 0 ≡ get_or b i 0 → ⊥) → i ≡ common_prefix a b
start-stop a b i e f g h =
    let p = common_prefix-differ (get_or a i 0) (get_or b i 0) (drop (suc i) a) (drop (suc i) b) h in
    let r : common_prefix (drop i a) (drop i b) ≡ 0 = rw (drop-cons a i 0 f, drop-cons b i 0 g) p in
    omega arith

-- ---- the common ending

take-reverse : (l : List ℕ) (n : ℕ) → n ≤ length l → take n (reverse l) ≡ reverse (drop (length l - n) l)
take-reverse l n h =
    let k = length l - n in
    let f : length (reverse (drop k l)) ≡ n = rw (length-reverse, length-drop) (omega arith) in
    ap (λ (x : List ℕ). take n (reverse x)) (sym (take-append-drop k l))
    ∙ rw (reverse-append (take k l) (drop k l)) (take_at (reverse (drop k l)) (reverse (take k l)) n f)

reverse-around : (a : List ℕ) (v : ℕ) (b : List ℕ) → reverse (a ++ (v ∷ b)) ≡ reverse b ++ (v ∷ reverse a)
reverse-around a v b = reverse-append a (v ∷ b) ∙ rw (reverse-cons v b, append_assoc)

get_d_reverse : (l : List ℕ) (n : ℕ) → n < length l → get_or (reverse l) n 0 ≡ get_or l (length l - 1 - n) 0
get_d_reverse l n h =
    let m = length l - 1 - n in
    let g : m < length l = omega arith in
    let f : length (reverse (drop (suc m) l)) ≡ n = rw (length-reverse, length-drop) (omega arith) in
    ap (λ (x : List ℕ). get_or (reverse x) n 0) (split_at l m 0 g)
    ∙ rw (reverse-around (take m l) (get_or l m 0) (drop (suc m) l))
    (get_or_at (reverse (drop (suc m) l)) (get_or l m 0) (reverse (take m l)) 0 n f)

-- n is the length of the longest common ending
pub record Ends (a b : List ℕ) (n : ℕ) : Type 0 where
  pub left : n ≤ length a
  pub right : n ≤ length b
  pub same : drop (length a - n) a ≡ drop (length b - n) b
  pub stops : n < length a → n < length b → get_or a (length a - 1 - n) 0 ≡ get_or b (length b - 1 - n) 0 → ⊥

begins-ends : (a b : List ℕ) (n : ℕ) → Begins (reverse a) (reverse b) n → Ends a b n
begins-ends a b n h =
    let p : n ≤ length a = rw length-reverse at h.left in
    let q : n ≤ length b = rw length-reverse at h.right in
    let e : reverse (drop (length a - n) a) ≡ reverse (drop (length b - n) b) =
    sym (take-reverse a n p) ∙ h.same ∙ take-reverse b n q
    in
    record {
      left = p;
      right = q;
      same =
          sym (reverse-reverse (drop (length a - n) a)) ∙ ap (λ (l : List ℕ). reverse l) e ∙ reverse-reverse (drop (length b - n) b);
      stops =
          λ f g d.
          h.stops (rw length-reverse f) (rw length-reverse g) (get_d_reverse a n f ∙ d ∙ sym (get_d_reverse b n g));
    }

pub common_suffix-ends : (a b : List ℕ) → Ends a b (common_suffix a b)
unfolding common_suffix
common_suffix-ends a b = begins-ends a b (common_suffix a b) (common_prefix-begins (reverse a) (reverse b))

pub common_suffix-left : (a b : List ℕ) → common_suffix a b ≤ length a
common_suffix-left a b = (common_suffix-ends a b).left

pub common_suffix-right : (a b : List ℕ) → common_suffix a b ≤ length b
common_suffix-right a b = (common_suffix-ends a b).right

pub drop-common_suffix : (a b : List ℕ) → drop (length a - common_suffix a b) a ≡ drop (length b - common_suffix a b) b
drop-common_suffix a b = (common_suffix-ends a b).same

pub common_suffix-stops : (a b : List ℕ) → common_suffix a b < length a → common_suffix a b < length b
    → get_or a (length a - 1 - common_suffix a b) 0 ≡ get_or b (length b - 1 - common_suffix a b) 0 → ⊥
common_suffix-stops a b = (common_suffix-ends a b).stops

pub common_suffix-append : (a b c : List ℕ) → common_suffix (a ++ c) (b ++ c) ≡ length c + common_suffix a b
unfolding common_suffix
common_suffix-append a b c =
    rw (reverse-append a c, reverse-append b c, common_prefix-append (reverse c) (reverse a) (reverse b), length-reverse c)

pub common_suffix-self : (a : List ℕ) → common_suffix a a ≡ length a
unfolding common_suffix
common_suffix-self a = common_prefix-self (reverse a) ∙ length-reverse a

-- the scan: nothing read yet, m more bytes agree
pub end_none : (a b : List ℕ) → common_suffix a b ≡ 0 + common_suffix (take (length a - 0) a) (take (length b - 0) b)
end_none a b = rw (sub-zero (length a), sub-zero (length b), take-length a, take-length b) (sym (zero-add (common_suffix a b)))

pub end_more : (a b : List ℕ) (i m : ℕ) → common_suffix a b ≡ i + common_suffix (take (length a - i) a) (take (length b - i) b)
    → part a (length a - i - m) m ≡ part b (length b - i - m) m → i + m ≤ length a → i + m ≤ length b
    → common_suffix a b ≡ i + m + common_suffix (take (length a - (i + m)) a) (take (length b - (i + m)) b)
end_more a b i m e f g h =
    let x = length a - (i + m) in
    let y = length b - (i + m) in
    let j : length a - i - m ≡ x = omega arith in
    let k : length b - i - m ≡ y = omega arith in
    let s : part a x m ≡ part b y m = rw (j, k) at f in
    let l : length (part b y m) ≡ m = length_part b y m (omega arith) in
    let u : length a - i ≡ x + m = omega arith in
    let v : length b - i ≡ y + m = omega arith in
    let p : take (length a - i) a ≡ take x a ++ part b y m = rw (u, take-add x m a, s) in
    let q : take (length b - i) b ≡ take y b ++ part b y m = rw (v, take-add y m b) in
    let r : common_suffix (take (length a - i) a) (take (length b - i) b) ≡ m + common_suffix (take x a) (take y b) =
    rw (p, q, common_suffix-append (take x a) (take y b) (part b y m), l)
    in
    omega arith

last-inside : (n i : ℕ) → i < n → n - i - 1 < n
last-inside n i h = omega arith

pub end-byte : (a b : List ℕ) (i : ℕ) → common_suffix a b ≡ i + common_suffix (take (length a - i) a) (take (length b - i) b)
    → i < length a → i < length b → get_or a (length a - 1 - i) 0 ≡ get_or b (length b - 1 - i) 0
    → common_suffix a b ≡ i + 1 + common_suffix (take (length a - (i + 1)) a) (take (length b - (i + 1)) b)
end-byte a b i e f g h =
    let x = length a - i - 1 in
    let y = length b - i - 1 in
    let s : get_or a x 0 ≡ get_or b y 0 = rw (sub_right_comm (length a) 1 i, sub_right_comm (length b) 1 i) at h in
    end_more a b i 1 e (same-one a b x y (last-inside (length a) i f) (last-inside (length b) i g) s) (omega arith) (omega arith)

-- the ending of two lists whose last bytes differ
common_suffix-differ : (a b : List ℕ) (x y : ℕ) → (x ≡ y → ⊥) → common_suffix (a ++ (x ∷ [])) (b ++ (y ∷ [])) ≡ 0
unfolding common_suffix
common_suffix-differ a b x y h =
    rw (reverse-around a x [], reverse-around b y []) (common_prefix-differ x y (reverse a) (reverse b) h)

pub end-stop : (a b : List ℕ) (i : ℕ) → common_suffix a b ≡ i + common_suffix (take (length a - i) a) (take (length b - i) b)
    → i < length a → i < length b → (get_or a (length a - 1 - i) 0 ≡ get_or b (length b - 1 - i) 0 → ⊥) → i ≡ common_suffix a b
end-stop a b i e f g h =
    let x = length a - 1 - i in
    let y = length b - 1 - i in
    let u : length a - i ≡ suc x = omega arith in
    let v : length b - i ≡ suc y = omega arith in
    let p : x < length a = omega arith in
    let q : y < length b = omega arith in
    let r : common_suffix (take (length a - i) a) (take (length b - i) b) ≡ 0 =
    rw (u, v, take-suc a x 0 p, take-suc b y 0 q) (common_suffix-differ (take x a) (take y b) (get_or a x 0) (get_or b y 0) h)
    in
    omega arith

-- what lies between a common beginning and a common ending of two lists is all that differs
pub between : (a b : List ℕ) (p e : ℕ) → take p a ≡ take p b → drop (length a - e) a ≡ drop (length b - e) b → p + e ≤ length b
    → take p a ++ (part b p (length b - e - p) ++ drop (length a - e) a) ≡ b
between a b p e f g h =
    let m : p + (length b - e - p) ≡ length b - e = omega arith in
    let q : drop (length b - e) b ≡ drop (length b - e - p) (drop p b) = sym (drop-drop (length b - e - p) p b ∙ rw m) in
    rw (f, g, q, take-append-drop (length b - e - p) (drop p b)) (take-append-drop p b)
