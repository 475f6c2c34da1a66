-- What the sum of a text's digits says of the text, the hash sign that begins it, and the answers to it.
use Prim.Native.Nat.{ℕ, ◌+◌, ◌-◌, ◌*◌, ◌^◌, ◌≤◌, ◌<◌}
use mathlib.Core.Path.{◌≡◌, refl, sym, ◌∙◌, ap}
use mathlib.Core.Bool.{Bool, true, false, cond}
use mathlib.Core.List.{List, [], ◌∷◌}
use native.Mathlib.Omega.{arith}
use lib.ListN.{length, get_or, take, drop, length-drop, drop_of_length-le}
use lib.Seq.{take_all}
use lib.Dec.{ltb}
use borrow.Author.Tests.{ltb-true, ltb-false, eq-eqb, ne_eqb}
use Rattle.m17.specs.declared.Edition.{Edition}
use Rattle.m17.specs.declared.Edition.TheVariants.{Older, Newer}
use Rattle.m17.specs.Address.{digit_of, within, address_of, first_foreign, hash_sign, first_hash, hash_signs, foreign_place, number_of, encoding}
use Rattle.m17.proofs.Laws.{foreign-le, foreign-here, foreign-at, native-step, address_step, address_below, encoding-foreign, encoding-space, encoding-number}
use Rattle.m17_encoder.specs.Texts.{OneToNine}
use Rattle.std.specs.Prelude.{Ok}
use Rattle.format.specs.declared.refusals.Reason.TheVariants as reason
use Rattle.fields.specs.Rule.{Refused}

-- ---- the hash sign that begins a text

pub signs-none : (e : Edition) (s : List ℕ) → (get_or s 0 0 ≡ hash_sign → ⊥) → hash_signs e s ≡ 0
unfolding hash_signs
signs-none Older s h = refl
signs-none Newer [] h = refl
signs-none Newer (c ∷ s) h = rw (ne_eqb c hash_sign h)

pub signs-one : (s : List ℕ) → 0 < length s → get_or s 0 0 ≡ hash_sign → hash_signs Newer s ≡ 1
unfolding hash_signs
signs-one [] p h = absurd (omega arith)
signs-one (c ∷ s) p h = rw (eq-eqb c hash_sign h)

sign-digit : digit_of hash_sign ≡ 40
unfolding digit_of within
sign-digit = refl

-- ---- a part that starts within the text

abbrev behind : ℕ → List ℕ → List ℕ
behind k s = take (length s - k) (drop k s)

pub behind-drop : (k : ℕ) (s : List ℕ) → behind k s ≡ drop k s
behind-drop k s = take_all (length s - k) (drop k s) (simp length-drop (omega arith))

pub behind-length : (k : ℕ) (s : List ℕ) → length (behind k s) ≡ length s - k
behind-length k s = rw (behind-drop k s) (length-drop k s)

-- ---- the answers to a text of 1 to 9 characters, k of them its hash sign

module _ (e : Edition) (s : List ℕ) (g : OneToNine s) (k : ℕ) (h : k ≡ hash_signs e s) (l : k ≤ length s) where
  pub answer-foreign : (p q : ℕ) → p ≡ k + q → q ≡ first_foreign (drop k s) → first_foreign (drop k s) < length (drop k s) → Refused reason.CallsignForeign p ≡ encoding e s
  unfolding foreign_place
  answer-foreign p q j i f =
      let a : p ≡ foreign_place e s = rw (j, i, h) in
      let w : foreign_place e s < length s = omega (arith, a, j, i, f, length-drop k s) in
      rw a (sym (encoding-foreign e s g.0 g.1 w))

  module _ (f : length (drop k s) ≤ first_foreign (drop k s)) where
    no-foreign : length s ≤ foreign_place e s
    unfolding foreign_place
    no-foreign = rw (← h) (omega (arith, f, length-drop k s))

    pub answer-space : get_or s (length s - 1) 0 ≡ 32 → Refused reason.CallsignSpace 0 ≡ encoding e s
    answer-space i = sym (encoding-space e s g.0 g.1 no-foreign i)

    pub answer-number : (n : ℕ) → n ≡ k * first_hash + address_of (drop k s) → (get_or s (length s - 1) 0 ≡ 32 → ⊥) → Ok n ≡ encoding e s
    unfolding number_of
    answer-number n i j =
        let m : n ≡ number_of e s = rw (i, h) in
        ap Ok m ∙ sym (encoding-number e s g.0 g.1 no-foreign j)

    pub sum_low : address_of (drop k s) < 40 ^ 9
    sum_low = address_below (drop k s) 9 (simp length-drop (omega (arith, g.1))) (omega (arith, f, foreign-le (drop k s)))

-- by the older the sign is foreign
pub answer-older : (s : List ℕ) → OneToNine s → get_or s 0 0 ≡ hash_sign → Refused reason.CallsignForeign 0 ≡ encoding Older s
answer-older s g h =
    let d : digit_of (get_or s 0 0) ≡ 40 = rw h sign-digit in
    let z : first_foreign (drop 0 s) ≡ 0 = foreign-here s 0 g.0 d in
    answer-foreign Older s g 0 (unfold hash_signs in refl) (omega arith) 0 0 refl (sym z) (omega (arith, z, g.0))

-- by the newer, alone, it is 40^9
pub answer-alone : (e : Edition) (s : List ℕ) → OneToNine s → get_or s 0 0 ≡ hash_sign → 1 ≡ hash_signs e s → length (behind 1 s) ≡ 0
    → Ok first_hash ≡ encoding e s
answer-alone e s g c h z =
    let l : length s ≡ 1 = omega (arith, z, behind-length 1 s, g.0) in
    let d : drop 1 s ≡ [] = drop_of_length-le s {i = 1} (omega arith) in
    let k : length s - 1 ≡ 0 = omega arith in
    let n : address_of (drop 1 s) ≡ 0 = rw d (unfold address_of in refl) in
    let last : get_or s (length s - 1) 0 ≡ 35 = rw k c in
    answer-number e s g 1 h (omega arith) (rw d (unfold first_foreign in omega arith)) first_hash (omega (arith, n)) (λ x. omega (arith, last, x))

-- ---- an iteration at a place that may be past the text

abbrev place : ℕ → List ℕ → ℕ
place i s = cond (ltb i (length s)) i 0

pub place-low : (s : List ℕ) (i : ℕ) → 0 < length s → place i s < length s
place-low s i p = by (ltb i (length s)) refl
  where
    by : (b : Bool) → ltb i (length s) ≡ b → cond b i 0 < length s
    by true e = ltb-true i (length s) e
    by false e = p

pub place-foreign : (s : List ℕ) (i : ℕ) → 0 < length s → digit_of (get_or s (place i s) 0) ≡ 40 → first_foreign s < length s
place-foreign s i p d = foreign-at s (place i s) (place-low s i p) d

-- past the text there is nothing
pub past-drop : (s : List ℕ) (i : ℕ) → length s ≤ i → drop i s ≡ []
past-drop s i l = drop_of_length-le s l

pub place-sum : (s : List ℕ) (i x : ℕ) → 0 < i → x ≡ address_of (drop i s)
    → x * 40 + cond (ltb (i - 1) (length s)) (digit_of (get_or s (place (i - 1) s) 0)) 0 ≡ address_of (drop (i - 1) s)
place-sum s i x p e = by (ltb (i - 1) (length s)) refl
  where
    nothing : address_of [] ≡ 0
    nothing = unfold address_of in refl

    by : (b : Bool) → ltb (i - 1) (length s) ≡ b → x * 40 + cond b (digit_of (get_or s (cond b (i - 1) 0) 0)) 0 ≡ address_of (drop (i - 1) s)
    by true t = let l : i - 1 < length s = ltb-true (i - 1) (length s) t in omega (arith, e, address_step s i p (omega arith))
    by false t =
        let l : length s ≤ i - 1 = ltb-false (i - 1) (length s) t in
        let a : drop (i - 1) s ≡ [] = past-drop s (i - 1) l in
        let b : drop i s ≡ [] = past-drop s i (omega arith) in
        rw (e, a, b) (omega (arith, nothing))

pub place-native : (s : List ℕ) (i : ℕ) → 0 < i → (digit_of (get_or s (place (i - 1) s) 0) ≡ 40 → ⊥) → first_foreign (drop i s) ≡ length (drop i s)
    → first_foreign (drop (i - 1) s) ≡ length (drop (i - 1) s)
place-native s i p d e = by (ltb (i - 1) (length s)) refl d
  where
    by : (b : Bool) → ltb (i - 1) (length s) ≡ b → (digit_of (get_or s (cond b (i - 1) 0) 0) ≡ 40 → ⊥) → first_foreign (drop (i - 1) s) ≡ length (drop (i - 1) s)
    by true t n = let l : i - 1 < length s = ltb-true (i - 1) (length s) t in native-step s i p (omega arith) n e
    by false t n =
        let l : length s ≤ i - 1 = ltb-false (i - 1) (length s) t in
        rw (past-drop s (i - 1) l) (unfold first_foreign in refl)

pub place-le : (i n d : ℕ) → cond (ltb i n) d 0 ≤ d
place-le i n d = by (ltb i n)
  where
    by : (b : Bool) → cond b d 0 ≤ d
    by true = omega arith
    by false = omega arith
