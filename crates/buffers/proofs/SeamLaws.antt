-- Lists cut and written over at a seam: f is given by its pieces, a place by the length of those before it.
use Prim.Native.Nat.{ℕ, ◌+◌}
use mathlib.Core.Path.{◌≡◌, sym, ◌∙◌}
use mathlib.Core.List.{List, ◌++◌, append_assoc}
use native.Mathlib.Omega.{arith}
use lib.ListN.{length, drop, length-append}
use lib.Seq.{take_at, drop_at}
use Rattle.fields.specs.Bytes.{over}
use Rattle.buffers.specs.Cut.{cut}

-- x, which starts at p, replaced by as many bytes
pub over-seam : (f a x z y : List ℕ) (p : ℕ) → f ≡ a ++ (x ++ z) → length a ≡ p → length x ≡ length y → over f p y ≡ a ++ (y ++ z)
unfolding over
over-seam f a x z y p e g h =
    let d : length (a ++ x) ≡ p + length y = omega (arith, length-append a x) in
    let k : drop (p + length y) ((a ++ x) ++ z) ≡ z = drop_at (a ++ x) z (p + length y) d in
    rw (e, take_at a (x ++ z) p g, ← append_assoc a x z, k)

-- by any bytes
pub cut-seam : (f a x z y : List ℕ) (p k : ℕ) → f ≡ a ++ (x ++ z) → length a ≡ p → length x ≡ k → cut f p k y ≡ a ++ (y ++ z)
unfolding cut
cut-seam f a x z y p k e g h =
    let d : length (a ++ x) ≡ p + k = omega (arith, length-append a x) in
    let j : drop (p + k) ((a ++ x) ++ z) ≡ z = drop_at (a ++ x) z (p + k) d in
    rw (e, take_at a (x ++ z) p g, ← append_assoc a x z, j)

-- two changes: s in place of s₀ behind, then k in place of k₀
pub cut-over : (d a k₀ k e s₀ s z : List ℕ) (p q n : ℕ) → d ≡ a ++ (k₀ ++ (e ++ (s₀ ++ z))) → p ≡ length a → length k₀ ≡ length k
    → q ≡ length a + (length k₀ + length e) → n ≡ length s₀ → over (cut d q n s) p k ≡ a ++ (k ++ (e ++ (s ++ z)))
cut-over d a k₀ k e s₀ s z p q n g hp hk hq hn =
    let g₁ : d ≡ (a ++ (k₀ ++ e)) ++ (s₀ ++ z) = g ∙ simp append_assoc in
    let l : q ≡ length (a ++ (k₀ ++ e)) = simp length-append hq in
    let m : cut d q n s ≡ a ++ (k₀ ++ (e ++ (s ++ z))) = cut-seam d (a ++ (k₀ ++ e)) s₀ z s q n g₁ (sym l) (sym hn) ∙ simp append_assoc in
    over-seam (cut d q n s) a k₀ (e ++ (s ++ z)) k p m (sym hp) hk

-- three changes: s in place of s₀, before it t in place of t₀, before that k in place of k₀
pub cut-cut-over : (d a k₀ k m t₀ t u s₀ s z : List ℕ) (p o q v n : ℕ) → d ≡ a ++ (k₀ ++ (m ++ (t₀ ++ (u ++ (s₀ ++ z)))))
    → p ≡ length a → length k₀ ≡ length k → o ≡ length a + (length k₀ + length m) → v ≡ length t₀ → q ≡ o + (v + length u) → n ≡ length s₀
    → over (cut (cut d q n s) o v t) p k ≡ a ++ (k ++ (m ++ (t ++ (u ++ (s ++ z)))))
cut-cut-over d a k₀ k m t₀ t u s₀ s z p o q v n g hp hk ho hv hq hn =
    let g₁ : d ≡ (a ++ (k₀ ++ (m ++ (t₀ ++ u)))) ++ (s₀ ++ z) = g ∙ simp append_assoc in
    let l : q ≡ length (a ++ (k₀ ++ (m ++ (t₀ ++ u)))) = simp length-append (omega arith) in
    let c : cut d q n s ≡ a ++ (k₀ ++ (m ++ (t₀ ++ (u ++ (s ++ z))))) =
    cut-seam d (a ++ (k₀ ++ (m ++ (t₀ ++ u)))) s₀ z s q n g₁ (sym l) (sym hn) ∙ simp append_assoc
    in
    cut-over (cut d q n s) a k₀ k m t₀ t (u ++ (s ++ z)) p o v c hp hk ho hv
