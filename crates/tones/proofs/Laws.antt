-- Tones: the byte and the tone undo each other, and the table's two readings do. What the table holds is used by one test alone,
-- which antt computes at its 50 entries. Assumes nothing.
use mathlib.Core.Path.{◌≡◌, refl, ap, sym, ◌∙◌}
use mathlib.Core.Bool.{Bool, true, false, false≢true}
use mathlib.Core.List.{List}
use Prim.Native.Nat.{ℕ, ◌+◌, ◌%◌, ◌<◌, ◌≤◌}
use native.Mathlib.Nat.{zero-add}
use native.Mathlib.Omega.{arith}
use lib.Bits.{bit_or, or_shifted}
use lib.Dec.{leb, eqb}
use lib.ListN.{length, get_or}
use borrow.Author.Tests.{ltb-true, leb-true, leb-false, eqb-true, lt-ltb, le-leb, lt-leb}
use Rattle.std.proofs.Common.{Option, Some, None}
use Rattle.std.proofs.lemmas.Bool.{true_from_ne_false}
use Rattle.std.proofs.lemmas.Iterator.Adapters.{position_from-zero}
use Rattle.std.proofs.lemmas.List.Folds.{list_all_at}
use Rattle.std.proofs.lemmas.List.FromFn.{length-range_with_len, get_or-range_with_len}
use Rattle.std.proofs.lemmas.List.Sums.{passes_at_first}
use Rattle.std.proofs.lemmas.Option.{cond_some}
use Rattle.std.specs.List.{list_all, range_with_len, position_from, position_or_len}
use Rattle.tones.specs.declared.Tone.{Tone}
use Rattle.tones.specs.declared.Tone.TheVariants.{Enabled, Disabled}
use Rattle.tones.specs.Tone.{tone_table, tone_ok, tone_of, tone_index, tone_byte, tone_valid, index_of}

-- ---- a tone byte

pub tone_of-high : (b : ℕ) → 128 ≤ b → tone_of b ≡ Enabled (b % 128)
unfolding tone_of
tone_of-high b h = rw (le-leb 128 b h)

pub tone_of-low : (b : ℕ) → b < 128 → tone_of b ≡ Disabled (b % 128)
unfolding tone_of
tone_of-low b h = rw (lt-leb 128 b h)

-- by the top bit
by-top : (P : Tone → Type 0) (b : ℕ) (t : Bool) → leb 128 b ≡ t → (128 ≤ b → P (Enabled (b % 128))) → (b < 128 → P (Disabled (b % 128))) → P (tone_of b)
by-top P b true e f g = rw (tone_of-high b (leb-true 128 b e)) (f (leb-true 128 b e))
by-top P b false e f g = rw (tone_of-low b (leb-false 128 b e)) (g (leb-false 128 b e))

pub tone-index : (t : Tone) → tone_valid t ≡ true → tone_index t < 50
unfolding tone_valid
tone-index t g = ltb-true _ 50 g

pub tone-returns : (t : Tone) → tone_valid t ≡ true → tone_of (tone_byte t) ≡ t
unfolding tone_byte tone_index
tone-returns (Enabled i) g =
    let l : i < 50 = tone-index (Enabled i) g in
    let e : (128 + i) % 128 ≡ i = omega arith in
    rw (tone_of-high (128 + i) (omega arith), e)
tone-returns (Disabled i) g =
    let l : i < 50 = tone-index (Disabled i) g in
    let e : i % 128 ≡ i = omega arith in
    rw (tone_of-low i (omega arith), e)

pub tone_byte-of : (b : ℕ) → b < 256 → tone_byte (tone_of b) ≡ b
unfolding tone_byte
tone_byte-of b l = by-top (λ (t : Tone). tone_byte t ≡ b) b (leb 128 b) refl (λ h. omega arith) (λ h. omega arith)

pub tone_valid-of : (b : ℕ) → tone_ok b ≡ true → tone_valid (tone_of b) ≡ true
unfolding tone_ok tone_valid tone_index
tone_valid-of b k = by-top (λ (t : Tone). tone_valid t ≡ true) b (leb 128 b) refl (λ h. k) (λ h. k)

pub tone_ok-byte : (t : Tone) → tone_valid t ≡ true → tone_ok (tone_byte t) ≡ true
unfolding tone_ok tone_byte tone_index
tone_ok-byte (Enabled i) g =
    let l : i < 50 = tone-index (Enabled i) g in
    lt-ltb ((128 + i) % 128) 50 (omega arith)
tone_ok-byte (Disabled i) g =
    let l : i < 50 = tone-index (Disabled i) g in
    lt-ltb (i % 128) 50 (omega arith)

pub tone_byte-lt : (t : Tone) → tone_valid t ≡ true → tone_byte t < 256
unfolding tone_byte tone_index
tone_byte-lt (Enabled i) g = omega (arith, tone-index (Enabled i) g)
tone_byte-lt (Disabled i) g = omega (arith, tone-index (Disabled i) g)

-- what the code makes of each kind
pub enabled-byte : (t : Tone) (i : ℕ) → t ≡ Enabled i → tone_valid t ≡ true → bit_or 128 i ≡ tone_byte t
unfolding tone_byte tone_index
enabled-byte t i e g =
    let l : i < 50 = tone-index (Enabled i) (rw e at g) in
    rw e (or_shifted 1 7 i (omega arith))

-- ---- the table

-- a test that passes up to n, computed at each
below_all : (p : ℕ → Bool) (n i : ℕ) → list_all p (range_with_len 0 n) ≡ true → i < n → p i ≡ true
below_all p n i all h =
    let l : i < length (range_with_len 0 n) = rw (length-range_with_len 0 n) h in
    let e : get_or (range_with_len 0 n) i 0 ≡ i = get_or-range_with_len 0 n i 0 h ∙ zero-add i in
    true_from_ne_false (p i) (λ f. false≢true (sym (list_all_at p (range_with_len 0 n) i 0 l (rw e f)) ∙ all))

-- an entry is found at its own place
abbrev is_some_of : ℕ → Option ℕ → Bool
is_some_of i (Some j) = eqb j i
is_some_of i None = false

some-of : (i : ℕ) (o : Option ℕ) → is_some_of i o ≡ true → o ≡ Some i
some-of i (Some j) t = ap Some (eqb-true j i t)
some-of i None t = absurd (false≢true t)

pub index-returns : (i : ℕ) → i < 50 → index_of (get_or tone_table i 0) ≡ Some i
unfolding tone_table index_of
index-returns i h = some-of i _ (below_all (λ k. is_some_of k (index_of (get_or tone_table k 0))) 50 i refl h)

-- what is found is in the table, at the place that is answered
found : (s : List ℕ) (x i : ℕ) → position_from (λ t. eqb t x) 0 s ≡ Some i → (get_or s i 0 ≡ x) × (i < length s)
found s x i e =
    let test : ℕ → Bool = λ t. eqb t x in
    let at = cond_some _ _ i (position_from-zero test s ∙ e) in
    let below : position_or_len test s < length s = ltb-true _ _ at.0 in
    (rw at.1 at (eqb-true _ x (passes_at_first test s 0 below)), rw at.1 at below)

pub index-found : (x i : ℕ) → index_of x ≡ Some i → (get_or tone_table i 0 ≡ x) × (i < 50)
unfolding tone_table index_of
index-found x i e = found tone_table x i e
