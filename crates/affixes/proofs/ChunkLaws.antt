-- Laws for the code: chunks of 32 bytes that agree, and the bytes beyond them.
use Prim.Native.Nat.{ℕ, zero, suc, ◌+◌, ◌-◌, ◌*◌, ◌/◌, ◌≤◌, ◌<◌, min}
use mathlib.Core.Path.{◌≡◌, refl}
use mathlib.Core.Bool.{Bool, true, false}
use mathlib.Core.List.{List, ◌∷◌}
use native.Mathlib.Omega.{arith}
use lib.ListN.{length, get_or, take, drop, length-drop}
use lib.Seq.{drop-drop, length-take-le}
use lib.Dec.{eqb}
use Rattle.std.specs.List.{zip, prefix_len}
use Rattle.std.specs.Simd.{first_chunks}
use Rattle.std.specs.Cmp.Lexicographic.{pointwise}
use Rattle.std.proofs.lemmas.Slice.Eq.{bytes_eq-Decides}
use Rattle.fields.specs.Bytes.{part}
use Rattle.affixes.specs.Common.{common_prefix, common_suffix}
use Rattle.affixes.specs.Scan.{SuffixTo}
use Rattle.affixes.proofs.Laws.{common_prefix-left, common_prefix-right, start-more, start_none, start-byte}
use Rattle.affixes.proofs.Laws.{common_suffix-left, common_suffix-right, end_more, end-byte}

-- how many chunks at the front of both are equal
abbrev pub same_chunks : List (List ℕ) → List (List ℕ) → ℕ
same_chunks x y = prefix_len (λ (p : List ℕ × List ℕ). pointwise eqb p.0 p.1) (zip x y)

-- ---- from the front

-- the first n bytes agree: what is common are these and what the rests have in common
pub record PrefixTo (a b : List ℕ) (n : ℕ) : Type 0 where
  pub left : n ≤ length a
  pub right : n ≤ length b
  pub goes : common_prefix a b ≡ n + common_prefix (drop n a) (drop n b)

front-test : (k m : ℕ) (a b : List ℕ) (i : ℕ) (t : Bool) → pointwise eqb (part a i 32) (part b i 32) ≡ t → PrefixTo a b i
    → i + 32 * suc k ≤ length a → i + 32 * suc m ≤ length b
    → (PrefixTo a b (i + 32)
    → PrefixTo a b (i + 32 + 32 * same_chunks (first_chunks 32 k (drop (i + 32) a)) (first_chunks 32 m (drop (i + 32) b))))
    → PrefixTo a b
    (i + 32 * same_chunks (part a i 32 ∷ first_chunks 32 k (drop 32 (drop i a))) (part b i 32 ∷ first_chunks 32 m (drop 32 (drop i b))))
front-test k m a b i true e p f g h =
    let same : part a i 32 ≡ part b i 32 = (bytes_eq-Decides (part a i 32) (part b i 32)).0 e in
    let next : PrefixTo a b (i + 32) =
    record { left = omega arith; right = omega arith; goes = start-more a b i 32 p.goes same (omega arith) }
    in
    let n = same_chunks (first_chunks 32 k (drop (i + 32) a)) (first_chunks 32 m (drop (i + 32) b)) in
    let u : i + 32 * (1 + n) ≡ i + 32 + 32 * n = omega arith in
    rw (e, drop-drop 32 i a, drop-drop 32 i b, u) (h next)
front-test k m a b i false e p f g h =
    let u : i + 32 * 0 ≡ i = omega arith in
    rw (e, u) p

front-chunks : (k m : ℕ) (a b : List ℕ) (i : ℕ) → i + 32 * k ≤ length a → i + 32 * m ≤ length b → PrefixTo a b i
    → PrefixTo a b (i + 32 * same_chunks (first_chunks 32 k (drop i a)) (first_chunks 32 m (drop i b)))
front-chunks zero m a b i f g p = let u : i + 32 * 0 ≡ i = omega arith in rw u p
front-chunks (suc k) zero a b i f g p = let u : i + 32 * 0 ≡ i = omega arith in rw u p
front-chunks (suc k) (suc m) a b i f g p =
    front-test k m a b i (pointwise eqb (part a i 32) (part b i 32)) refl p f g
    (λ q. front-chunks k m a b (i + 32) (omega arith) (omega arith) q)

-- n whole chunks agree
pub front : (a b : List ℕ) {x y : List (List ℕ)} {n : ℕ} → x ≡ first_chunks 32 (length a / 32) a → y ≡ first_chunks 32 (length b / 32) b
    → n ≡ same_chunks x y → PrefixTo a b (32 * n)
front a b {x} {y} {n} e f g =
    let u : 0 + 32 * n ≡ 32 * n = omega arith in
    rw (← e, ← f, ← g, u) at (front-chunks (length a / 32) (length b / 32) a b 0 (omega arith) (omega arith)
    (record { left = omega arith; right = omega arith; goes = start_none a b }))

-- one byte more
pub front-more : {a b : List ℕ} {i : ℕ} → PrefixTo a b i → i < length a → i < length b → get_or a i 0 ≡ get_or b i 0 → PrefixTo a b (i + 1)
front-more {a} {b} {i} p f g e = record { left = omega arith; right = omega arith; goes = start-byte a b i p.goes f g e }

-- the shorter of both has ended
pub front-done : {a b : List ℕ} {i n : ℕ} → PrefixTo a b i → n ≡ min (length a) (length b) → n ≤ i → n ≡ common_prefix a b
front-done {a} {b} {i} p e f =
    let l = common_prefix-left (drop i a) (drop i b) in
    let r = common_prefix-right (drop i a) (drop i b) in
    let u = length-drop i a in
    let v = length-drop i b in
    omega (arith, p.goes)

-- ---- from the end

-- one byte more
pub end-one : (a b : List ℕ) (i : ℕ) → SuffixTo a b i → i < length a → i < length b
    → get_or a (length a - 1 - i) 0 ≡ get_or b (length b - 1 - i) 0 → SuffixTo a b (i + 1)
end-one a b i p f g e = ((omega arith, omega arith), end-byte a b i p.1 f g e)

-- a chunk more
pub end-chunk : (a b : List ℕ) (k : ℕ) → SuffixTo a b (32 * k) → 32 * k + 32 ≤ length a → 32 * k + 32 ≤ length b
    → part a (length a - (32 * k + 32)) 32 ≡ part b (length b - (32 * k + 32)) 32 → SuffixTo a b (32 * (k + 1))
end-chunk a b k p f g e =
    let x : length a - 32 * k - 32 ≡ length a - (32 * k + 32) = omega arith in
    let y : length b - 32 * k - 32 ≡ length b - (32 * k + 32) = omega arith in
    let w : 32 * (k + 1) ≡ 32 * k + 32 = omega arith in
    rw w ((omega arith, omega arith), end_more a b (32 * k) 32 p.1 (rw (x, y) e) (omega arith) (omega arith))

-- the shorter of both has ended
pub end-done : (a b : List ℕ) (i n : ℕ) → SuffixTo a b i → n ≡ min (length a) (length b) → n ≤ i → n ≡ common_suffix a b
end-done a b i n p e f =
    let x = take (length a - i) a in
    let y = take (length b - i) b in
    let l = common_suffix-left x y in
    let r = common_suffix-right x y in
    let u : length x ≡ length a - i = length-take-le (length a - i) a (omega arith) in
    let v : length y ≡ length b - i = length-take-le (length b - i) b (omega arith) in
    omega (arith, p.1)
