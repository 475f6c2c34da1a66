-- Laws of texts: a field's bytes go to a text and back, and validation's step from byte to byte. By recursion on the list.
use Prim.Native.Nat.{ℕ, zero, suc, ◌+◌, ◌-◌, ◌≤◌, ◌<◌}
use mathlib.Core.Path.{◌≡◌, refl, sym, ap, ◌∙◌}
use mathlib.Core.Logic.{◌⊎◌, inl, inr}
use mathlib.Core.Bool.{Bool, true, false, ◌&&◌, ◌||◌, not, cond}
use mathlib.Core.List.{List, [], ◌∷◌, ◌++◌}
use native.Mathlib.Nat.{add-zero}
use native.Mathlib.Numerals.{add-one}
use native.Mathlib.Omega.{arith}
use borrow.Author.Tests.{leb-true, le-leb, lt-leb, eq-eqb, ne_eqb, eqb-true}
use lib.Dec.{leb, eqb}
use lib.ListN.{length, drop, get_or, length-append, length-replicate, drop_of_length-le}
use lib.Seq.{drop-cons}
use Rattle.std.proofs.lemmas.Bool.{and_parts, and_from}
use Rattle.fields.specs.Bytes.{zeros}
use Rattle.text.specs.Text.{printable, plain_text, all_zero, text_of, text_ok, given_ok, padded}
use Rattle.text.specs.Scan.{fault_after, step_fault, rest_ok}

-- Bool

and_assoc : (a b c : Bool) → a && b && c ≡ a && (b && c)
and_assoc true b c = refl
and_assoc false b c = refl

-- A byte

pub printable-range : (b : ℕ) → printable b ≡ true → (32 ≤ b) × (b ≤ 126)
unfolding printable
printable-range b h = let p = and_parts _ _ h in (leb-true 32 b p.0, leb-true b 126 p.1)

pub printable-nonzero : (b : ℕ) → printable b ≡ true → eqb b 0 ≡ false
printable-nonzero b h = let l : (32 ≤ b) × (b ≤ 126) = printable-range b h in ne_eqb b 0 (λ e. omega arith)

pub unprintable : (b : ℕ) → (b < 32) ⊎ (126 < b) → printable b ≡ false
unfolding printable
unprintable b (inl h) = rw (lt-leb 32 b h)
unprintable b (inr h) = rw (le-leb 32 b (omega arith), lt-leb b 126 h)

pub is-printable : (b : ℕ) → 32 ≤ b → b ≤ 126 → printable b ≡ true
unfolding printable
is-printable b l h = rw (le-leb 32 b l, le-leb b 126 h)

-- A field, byte by byte

text_ok-head : (b : ℕ) (s : List ℕ) (t : Bool) → eqb b 0 ≡ t → text_ok (b ∷ s) ≡ cond t (all_zero s) (printable b && text_ok s)
unfolding text_ok text_of plain_text all_zero
text_ok-head b s true e = rw e (rw e)
text_ok-head b s false e = rw e (and_assoc (printable b) (plain_text (text_of s)) (all_zero (drop (length (text_of s)) s)))

pub text_ok-cons : (b : ℕ) (s : List ℕ) → text_ok (b ∷ s) ≡ cond (eqb b 0) (all_zero s) (printable b && text_ok s)
text_ok-cons b s = text_ok-head b s (eqb b 0) refl

text_of-end : (b : ℕ) (s : List ℕ) → eqb b 0 ≡ true → text_of (b ∷ s) ≡ []
unfolding text_of
text_of-end b s e = rw e

text_of-more : (b : ℕ) (s : List ℕ) → eqb b 0 ≡ false → text_of (b ∷ s) ≡ b ∷ text_of s
unfolding text_of
text_of-more b s e = rw e

length-head : (b : ℕ) (s : List ℕ) (t : Bool) → eqb b 0 ≡ t → length (text_of s) ≤ length s → length (text_of (b ∷ s)) ≤ length (b ∷ s)
length-head b s true e h = rw (text_of-end b s e) (omega arith)
length-head b s false e h = rw (text_of-more b s e) (omega arith)

pub length-text_of : (s : List ℕ) → length (text_of s) ≤ length s
unfolding text_of
length-text_of [] = omega arith
length-text_of (b ∷ s) = length-head b s (eqb b 0) refl (length-text_of s)

pub all_zero-zeros : (n : ℕ) → all_zero (zeros n) ≡ true
unfolding all_zero zeros
all_zero-zeros zero = refl
all_zero-zeros (suc n) = all_zero-zeros n

pub all_zero-is : (s : List ℕ) → all_zero s ≡ true → s ≡ zeros (length s)
unfolding all_zero zeros
all_zero-is [] h = refl
all_zero-is (b ∷ s) h =
    let e : b ≡ 0 = eqb-true b 0 (and_parts _ _ h).0 in
    let r : s ≡ zeros (length s) = all_zero-is s (and_parts (eqb b 0) _ h).1 in
    cc

-- A text, byte by byte: what is left behind i decides

plain-next : (s : List ℕ) (i : ℕ) → i < length s → plain_text (drop i s) ≡ printable (get_or s i 0) && plain_text (drop (i + 1) s)
unfolding plain_text
plain-next s i h = rw (drop-cons s i 0 h, add-one)

pub plain_step : (s : List ℕ) (i : ℕ) → i < length s → 32 ≤ get_or s i 0 → get_or s i 0 ≤ 126
    → plain_text s ≡ plain_text (drop i s) → plain_text s ≡ plain_text (drop (i + 1) s)
plain_step s i h l u inv = inv ∙ (plain-next s i h ∙ rw (is-printable (get_or s i 0) l u))

pub plain-stop : (s : List ℕ) (i : ℕ) → i < length s → (get_or s i 0 < 32) ⊎ (126 < get_or s i 0)
    → plain_text s ≡ plain_text (drop i s) → false ≡ plain_text s
plain-stop s i h bad inv = sym (inv ∙ (plain-next s i h ∙ rw (unprintable (get_or s i 0) bad)))

pub plain_end : (s : List ℕ) (i : ℕ) → length s ≤ i → plain_text s ≡ plain_text (drop i s) → true ≡ plain_text s
unfolding plain_text
plain_end s i h inv = sym (inv ∙ rw (drop_of_length-le s {i = i} h))

-- A text with zeros after it

plain-head : (b : ℕ) (s : List ℕ) → plain_text (b ∷ s) ≡ true → printable b ≡ true
unfolding plain_text
plain-head b s h = (and_parts _ _ h).0

plain-tail : (b : ℕ) (s : List ℕ) → plain_text (b ∷ s) ≡ true → plain_text s ≡ true
unfolding plain_text
plain-tail b s h = (and_parts (printable b) _ h).1

text_ok-zeros : (n : ℕ) → text_ok (zeros n) ≡ true
unfolding text_ok text_of plain_text all_zero zeros
text_ok-zeros zero = refl
text_ok-zeros (suc n) = all_zero-zeros n

text_of-zeros : (n : ℕ) → text_of (zeros n) ≡ []
unfolding text_of zeros
text_of-zeros zero = refl
text_of-zeros (suc n) = refl

text_ok-append : (s : List ℕ) (n : ℕ) → plain_text s ≡ true → text_ok (s ++ zeros n) ≡ true
text_ok-append [] n h = text_ok-zeros n
text_ok-append (b ∷ s) n h =
    let p : printable b ≡ true = plain-head b s h in
    rw (text_ok-cons b (s ++ zeros n), printable-nonzero b p, p) (text_ok-append s n (plain-tail b s h))

text_of-append : (s : List ℕ) (n : ℕ) → plain_text s ≡ true → text_of (s ++ zeros n) ≡ s
text_of-append [] n h = text_of-zeros n
text_of-append (b ∷ s) n h =
    text_of-more b (s ++ zeros n) (printable-nonzero b (plain-head b s h)) ∙ ap (λ (r : List ℕ). b ∷ r) (text_of-append s n (plain-tail b s h))

pub given_ok-length : (s : List ℕ) → given_ok s ≡ true → length s ≤ 32
unfolding given_ok
given_ok-length s h = leb-true (length s) 32 (and_parts _ _ h).0

pub given_ok-plain : (s : List ℕ) → given_ok s ≡ true → plain_text s ≡ true
unfolding given_ok
given_ok-plain s h = (and_parts (leb (length s) 32) _ h).1

pub length-padded : (s : List ℕ) → length s ≤ 32 → length (padded s) ≡ 32
unfolding padded zeros
length-padded s h = simp (length-append, length-replicate) (omega arith)

pub text_ok-padded : (s : List ℕ) → given_ok s ≡ true → text_ok (padded s) ≡ true
unfolding padded
text_ok-padded s h = text_ok-append s (32 - length s) (given_ok-plain s h)

pub text_of-padded : (s : List ℕ) → given_ok s ≡ true → text_of (padded s) ≡ s
unfolding padded
text_of-padded s h = text_of-append s (32 - length s) (given_ok-plain s h)

-- A field's text

pub given-text_of : (s : List ℕ) → text_ok s ≡ true → length s ≡ 32 → given_ok (text_of s) ≡ true
unfolding given_ok text_ok
given-text_of s h l =
    let m : length (text_of s) ≤ length s = length-text_of s in
    and_from _ _ (le-leb (length (text_of s)) 32 (omega arith)) (and_parts _ _ h).0

rest-head : (b : ℕ) (s : List ℕ) (n : ℕ) (t : Bool) → eqb b 0 ≡ t
    → (text_ok s ≡ true → length s ≡ length (text_of s) + n → text_of s ++ zeros n ≡ s)
    → text_ok (b ∷ s) ≡ true → length (b ∷ s) ≡ length (text_of (b ∷ s)) + n → text_of (b ∷ s) ++ zeros n ≡ b ∷ s
unfolding zeros
rest-head b s n true e rest h l =
    let z : all_zero s ≡ true = rw (text_ok-cons b s, e) at h in
    let k : n ≡ suc (length s) = omega (arith, rw (text_of-end b s e) at l) in
    let i : s ≡ zeros (length s) = all_zero-is s z in
    let o : b ≡ 0 = eqb-true b 0 e in
    rw (text_of-end b s e, k, o) (ap (λ (r : List ℕ). 0 ∷ r) (sym i))
rest-head b s n false e rest h l =
    let k : length s ≡ length (text_of s) + n = omega (arith, rw (text_of-more b s e) at l) in
    let z : printable b && text_ok s ≡ true = rw (text_ok-cons b s, e) at h in
    rw (text_of-more b s e) (ap (λ (r : List ℕ). b ∷ r) (rest (and_parts (printable b) _ z).1 k))

-- a field is its text and then so many zeros
rest-is : (s : List ℕ) (n : ℕ) → text_ok s ≡ true → length s ≡ length (text_of s) + n → text_of s ++ zeros n ≡ s
unfolding text_of zeros
rest-is [] n h l = let k : n ≡ 0 = omega arith in rw k
rest-is (b ∷ s) n h l = rest-head b s n (eqb b 0) refl (rest-is s n) h l

pub padded-text_of : (s : List ℕ) → text_ok s ≡ true → length s ≡ 32 → padded (text_of s) ≡ s
unfolding padded
padded-text_of s h l =
    let m : length (text_of s) ≤ length s = length-text_of s in
    let e : length s ≡ length (text_of s) + (32 - length (text_of s)) = omega arith in
    rest-is s (32 - length (text_of s)) h e

-- A text's bytes

pub plain_text-low : (s : List ℕ) → plain_text s ≡ true → (i : ℕ) → get_or s i 0 < 128
plain_text-low [] h i = omega arith
plain_text-low (b ∷ s) h zero = let l : (32 ≤ b) × (b ≤ 126) = printable-range b (plain-head b s h) in omega arith
plain_text-low (b ∷ s) h (suc i) = plain_text-low s (plain-tail b s h) i

pub plain_text-bytes : (s : List ℕ) → plain_text s ≡ true → (i : ℕ) → get_or s i 0 < 256
plain_text-bytes s h i = omega (arith, plain_text-low s h i)

-- Validation's step

step-bool : (p z q x y : Bool) → cond p (z && x) (cond z x (q && y)) ≡ cond (not z && (p || not q)) false (cond z x y)
step-bool true true true x y = refl
step-bool true true false x y = refl
step-bool true false true x y = refl
step-bool true false false x y = refl
step-bool false true true x y = refl
step-bool false true false x y = refl
step-bool false false true x y = refl
step-bool false false false x y = refl

pub rest_ok-cons : (prev b : ℕ) (s : List ℕ) → rest_ok prev (b ∷ s) ≡ cond (fault_after prev b) false (rest_ok b s)
unfolding rest_ok fault_after all_zero
rest_ok-cons prev b s =
    rw (text_ok-cons b s) (step-bool (eqb prev 0) (eqb b 0) (printable b) (all_zero s) (text_ok s))

pub rest_ok-start : (s : List ℕ) → text_ok s ≡ rest_ok 32 s
unfolding rest_ok
rest_ok-start s = refl

pub rest_ok-nil : (prev : ℕ) → rest_ok prev [] ≡ true
unfolding rest_ok all_zero text_ok text_of plain_text
rest_ok-nil prev = at (eqb prev 0)
  where
    at : (t : Bool) → cond t true true ≡ true
    at true = refl
    at false = refl

fault-step : (faults : ℕ) (t r : Bool) → cond (eqb faults 0) (cond t false r) false ≡ cond (eqb (faults + cond t 1 0) 0) r false
fault-step faults true r = rw (ne_eqb (faults + 1) 0 (λ e. omega arith)) (at (eqb faults 0))
  where
    at : (t : Bool) → cond t false false ≡ false
    at true = refl
    at false = refl
fault-step faults false r = rw add-zero

pub scan_step : (s : List ℕ) (i faults prev r : ℕ) → i < length s → r ≡ step_fault prev (get_or s i 0)
    → text_ok s ≡ cond (eqb faults 0) (rest_ok prev (drop i s)) false
    → text_ok s ≡ cond (eqb (faults + r) 0) (rest_ok (get_or s i 0) (drop (i + 1) s)) false
unfolding step_fault
scan_step s i faults prev r h e inv =
    inv
    ∙ rw (drop-cons s i 0 h, rest_ok-cons prev (get_or s i 0) (drop (suc i) s), e, add-one)
    (fault-step faults (fault_after prev (get_or s i 0)) (rest_ok (get_or s i 0) (drop (suc i) s)))

pub scan-end : (s : List ℕ) (i faults prev : ℕ) → length s ≤ i
    → text_ok s ≡ cond (eqb faults 0) (rest_ok prev (drop i s)) false → eqb faults 0 ≡ text_ok s
scan-end s i faults prev h inv = sym (inv ∙ rw (drop_of_length-le s {i = i} h, rest_ok-nil prev) (at (eqb faults 0)))
  where
    at : (t : Bool) → cond t true false ≡ t
    at true = refl
    at false = refl

-- ---- how long a field's text is, counted from the front

pub text-more : (s : List ℕ) (i : ℕ) → i < length s → (get_or s i 0 ≡ 0 → ⊥) → length (text_of (drop i s)) ≡ suc (length (text_of (drop (suc i) s)))
unfolding text_of
text-more s i h z = rw (drop-cons s i 0 h, ne_eqb (get_or s i 0) 0 z)

pub text-stop : (s : List ℕ) (i : ℕ) → i < length s → get_or s i 0 ≡ 0 → length (text_of (drop i s)) ≡ 0
unfolding text_of
text-stop s i h z = rw (drop-cons s i 0 h, eq-eqb (get_or s i 0) 0 z)

pub text-end : (s : List ℕ) (i : ℕ) → length s ≤ i → length (text_of (drop i s)) ≡ 0
unfolding text_of
text-end s i h = rw (drop_of_length-le s h)
