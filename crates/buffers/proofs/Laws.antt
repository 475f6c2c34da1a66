-- Laws of writing over and of the splice.
use Prim.Native.Nat.{ℕ, zero, suc, ◌+◌, ◌-◌, ◌≤◌}
use mathlib.Core.Path.{◌≡◌, refl, ◌∙◌}
use mathlib.Core.List.{List, [], ◌∷◌, ◌++◌, append_assoc, append-nil}
use native.Mathlib.Omega.{arith}
use native.Mathlib.Nat.{zero-add, suc-add, add_assoc}
use lib.ListN.{length, take, drop, length-append}
use lib.Seq.{take-take, take-append-le, take_at, take-nil, length-take-le, drop_at}
use Rattle.fields.specs.Bytes.{part, over, zeros}
use Rattle.fields.proofs.Laws.{length_part, length_over, length-zeros, over-over}
use Rattle.fields.proofs.Laws.{AllBytes, bytes-over, bytes-append, bytes-part, bytes-zeros}
use Rattle.buffers.specs.Splice.{spliced}

-- ---- writing over

-- what stands before what was written, and what stands behind it
pub take-over-before : (d : List ℕ) (k : ℕ) (s : List ℕ) (n : ℕ) → n ≤ k → k ≤ length d → take n (over d k s) ≡ take n d
unfolding over
take-over-before d k s n g h =
    let f : n ≤ length (take k d) = rw (length-take-le k d h) g in
    take-append-le n (take k d) (s ++ drop (k + length s) d) f ∙ take-take n k d g

pub drop-over-at : (d : List ℕ) (k : ℕ) (s : List ℕ) → k ≤ length d → drop k (over d k s) ≡ s ++ drop (k + length s) d
unfolding over
drop-over-at d k s h = drop_at (take k d) (s ++ drop (k + length s) d) k (length-take-le k d h)

-- t is written first and then s right in front of it
pub over-ahead : (d : List ℕ) (k : ℕ) (s : List ℕ) (j : ℕ) (t : List ℕ) → j ≡ k + length s → j ≤ length d
    → over (over d j t) k s ≡ over d k (s ++ t)
unfolding over
over-ahead d k s j t e h =
    let f : k ≤ j = omega arith in
    rw (← e, take-over-before d j t k f h, drop-over-at d j t h, length-append, ← add_assoc k (length s) (length t), ← e) (simp append_assoc)

-- ---- the splice

-- the content behind is moved up and s put in front of it; o and r are the lists after each
pub grown : (d o r : List ℕ) (len p k : ℕ) (s : List ℕ) → o ≡ over d (p + k + (length s - k)) (part d (p + k) (len - (p + k)))
    → r ≡ over o p s → p + k ≤ len → len ≤ length d → len + length s ≤ length d + k → k ≤ length s → r ≡ spliced d len p k s
unfolding spliced zeros
grown d o r len p k s e f a b h g =
    let z : k - length s ≡ 0 = omega arith in
    let q : p + k + (length s - k) ≡ p + length s = omega arith in
    rw (f, e, q, z, append-nil) (over-ahead d p s (p + length s) (part d (p + k) (len - (p + k))) refl (omega arith))

-- the content behind is moved down, s put in front of it, and zeros behind it
pub shrunk : (d o q r : List ℕ) (len p k : ℕ) (s : List ℕ) → o ≡ over d (p + k - (k - length s)) (part d (p + k) (len - (p + k)))
    → q ≡ over o p s → r ≡ over q (len - (k - length s)) (zeros (k - length s)) → p + k ≤ len → len ≤ length d → length s ≤ k
    → r ≡ spliced d len p k s
unfolding spliced
shrunk d o q r len p k s e f h a b g =
    let t = part d (p + k) (len - (p + k)) in
    let l : length t ≡ len - (p + k) = length_part d (p + k) (len - (p + k)) (omega arith) in
    let i : p + k - (k - length s) ≡ p + length s = omega arith in
    let j : len - (k - length s) ≡ p + length (s ++ t) = rw length-append (omega arith) in
    rw (h, f, e, i, over-ahead d p s (p + length s) t refl (omega arith), ← append_assoc s t (zeros (k - length s)))
    (over-over d p (s ++ t) (len - (k - length s)) (zeros (k - length s)) j (omega arith))

drop-take : (l : List ℕ) (m n : ℕ) → drop m (take (m + n) l) ≡ take n (drop m l)
drop-take l zero n = rw zero-add
drop-take [] (suc m) n = rw (suc-add, take-nil n)
drop-take (x ∷ l) (suc m) n = rw suc-add (drop-take l m n)

-- the laws for callers: a content of len bytes in d, s in place of the k bytes at p, and room for it
module _ (d : List ℕ) (len p k : ℕ) (s : List ℕ) (inside : p + k ≤ len) (held : len ≤ length d) (fits : len + length s ≤ length d + k) where
  tail-length : length (part d (p + k) (len - (p + k))) ≡ len - (p + k)
  tail-length = length_part d (p + k) (len - (p + k)) (omega arith)

  written-length : length (s ++ (part d (p + k) (len - (p + k)) ++ zeros (k - length s))) ≡ len + (length s - k) - p
  written-length = rw (length-append, length-append, tail-length, length-zeros) (omega arith)

  pub length-spliced : length (spliced d len p k s) ≡ length d
  unfolding spliced
  length-spliced =
      let w = written-length in
      length_over d p (s ++ (part d (p + k) (len - (p + k)) ++ zeros (k - length s))) (omega arith)

  -- the new content, the zeros from its end up to the old end, and what is past both
  pub spliced-whole : spliced d len p k s
      ≡ (take p d ++ (s ++ part d (p + k) (len - (p + k)))) ++ (zeros (k - length s) ++ drop (len + (length s - k)) d)
  unfolding spliced over
  spliced-whole =
      let w : p + length (s ++ (part d (p + k) (len - (p + k)) ++ zeros (k - length s))) ≡ len + (length s - k) =
      omega (arith, written-length)
      in
      rw w (simp append_assoc)

  content-length : length (take p d ++ (s ++ part d (p + k) (len - (p + k)))) ≡ len - k + length s
  content-length =
      let h : p ≤ length d = omega arith in
      rw (length-append, length-append, length-take-le p d h, tail-length) (omega arith)

  pub spliced-content : take (len - k + length s) (spliced d len p k s) ≡ take p d ++ (s ++ part d (p + k) (len - (p + k)))
  spliced-content = rw spliced-whole (take_at _ _ _ content-length)

  pub spliced-spare : drop (len - k + length s) (spliced d len p k s) ≡ zeros (k - length s) ++ drop (len + (length s - k)) d
  spliced-spare = rw spliced-whole (drop_at (take p d ++ (s ++ part d (p + k) (len - (p + k)))) _ _ content-length)

  -- the new content out of the old one, l
  pub spliced-of : (l : List ℕ) → take len d ≡ l → take (len - k + length s) (spliced d len p k s) ≡ take p l ++ (s ++ drop (p + k) l)
  spliced-of l e =
      let f : take p l ≡ take p d = rw (← e) (take-take p len d (omega arith)) in
      let n : p + k + (len - (p + k)) ≡ len = omega arith in
      let g : drop (p + k) (take len d) ≡ part d (p + k) (len - (p + k)) = rw n at (drop-take d (p + k) (len - (p + k))) in
      rw (f, ← e, g) spliced-content

pub bytes-spliced : (d : List ℕ) (len p k : ℕ) (s : List ℕ) → AllBytes d → AllBytes s → AllBytes (spliced d len p k s)
unfolding spliced
bytes-spliced d len p k s f g =
    let t = part d (p + k) (len - (p + k)) in
    let z = zeros (k - length s) in
    let h = bytes-append t z (bytes-part d (p + k) (len - (p + k)) f) (bytes-zeros (k - length s)) in
    bytes-over d p (s ++ (t ++ z)) f (bytes-append s (t ++ z) g h)
