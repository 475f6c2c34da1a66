-- Laws of bytes rotated, and of a list in named pieces.
use Prim.Native.Nat.{ℕ, ◌+◌, ◌-◌, ◌≤◌}
use mathlib.Core.Path.{◌≡◌, ap, sym, ◌∙◌}
use mathlib.Core.List.{List, [], ◌++◌, append_assoc, append-nil}
use native.Mathlib.Omega.{arith}
use native.Mathlib.Nat.{zero-add, sub-zero}
use lib.ListN.{length, take, drop, length-append, length-drop, take-append-drop, drop_of_length-le}
use lib.Seq.{take_at, drop_at, drop-drop, take_all, take-take, length-take-le}
use borrow.Rule.Slice.PartMut.{put_mid}
use Rattle.fields.specs.Bytes.{part, over}
use Rattle.fields.proofs.Laws.{length_part, length_over, part_at, part-part, written_part}
use Rattle.std.specs.List.{copy_within}
use Rattle.rotation.specs.Rotation.{rotated}

-- ---- a list in pieces

-- what lies before k, the n at k, what lies behind them
pub cut-three : (d : List ℕ) (k n : ℕ) → d ≡ take k d ++ (part d k n ++ drop (k + n) d)
cut-three d k n = sym (rw (← drop-drop n k d, take-append-drop n (drop k d)) (take-append-drop k d))

-- the middle one of three written over
pub over-mid : (p s t q : List ℕ) (k : ℕ) → length p ≡ k → length s ≡ length t → over (p ++ (s ++ q)) k t ≡ p ++ (t ++ q)
unfolding over
over-mid p s t q k h g =
    let a : drop (k + length t) (p ++ (s ++ q)) ≡ q =
    sym (drop-drop (length t) k (p ++ (s ++ q))) ∙ rw (drop_at p (s ++ q) k h) (drop_at s q (length t) g)
    in
    rw (take_at p (s ++ q) k h, a)

-- ---- rotating

pub rotated-mid : (d p a b q : List ℕ) (k n m : ℕ) → d ≡ p ++ (a ++ (b ++ q)) → length p ≡ k → length a ≡ m → m + length b ≡ n
    → rotated d k n m ≡ p ++ (b ++ (a ++ q))
unfolding rotated
rotated-mid d p a b q k n m e hp ha hb =
    let lb : length b ≡ n - m = omega arith in
    let lpa : length (p ++ a) ≡ k + m = rw (length-append, hp, ha) in
    let f : p ++ (a ++ (b ++ q)) ≡ (p ++ a) ++ (b ++ q) = sym (append_assoc p a (b ++ q)) in
    let pb : part d (k + m) (n - m) ≡ b = rw (e, f) (part_at (p ++ a) b q (k + m) (n - m) lpa lb) in
    let pa : part d k m ≡ a = rw e (part_at p a (b ++ q) k m hp ha) in
    let g : d ≡ p ++ ((a ++ b) ++ q) = e ∙ ap (λ (l : List ℕ). p ++ l) (sym (append_assoc a b q)) in
    let l : length (a ++ b) ≡ length (b ++ a) = rw (length-append a b, length-append b a) (omega arith) in
    rw (pb, pa, g) (over-mid p (a ++ b) (b ++ a) q k hp l ∙ ap (λ (u : List ℕ). p ++ u) (append_assoc b a q))

-- a list in four
pub cut-four : (d : List ℕ) (k m n : ℕ) → d ≡ take k d ++ (part d k m ++ (part d (k + m) n ++ drop (k + m + n) d))
cut-four d k m n =
    cut-three d k m
    ∙ ap (λ (l : List ℕ). take k d ++ (part d k m ++ l)) (sym (rw (← drop-drop n (k + m) d) (take-append-drop n (drop (k + m) d))))

-- the n bytes at k after the method
pub rotated-part : (d t : List ℕ) (k n m w : ℕ) → t ≡ drop m (part d k w) ++ take m (part d k w) → w ≡ n → m ≤ n → k + n ≤ length d
    → put_mid k w d t ≡ rotated d k n m
unfolding rotated
rotated-part d t k n m w e f g h =
    let l : length (part d k n) ≡ n = length_part d k n h in
    let b : drop m (part d k n) ≡ part d (k + m) (n - m) =
    sym (take_all (n - m) (drop m (part d k n)) (simp length-drop (omega arith))) ∙ part-part d k n m (n - m) (omega arith)
    in
    let a : take m (part d k n) ≡ part d k m = take-take m n (drop k d) g in
    let s = part d (k + m) (n - m) ++ part d k m in
    let lb : length (part d (k + m) (n - m)) ≡ n - m = length_part d (k + m) (n - m) (omega arith) in
    let ls : length s ≡ n = rw (length-append, lb, length_part d k m (omega arith)) (omega arith) in
    written_part d t s k w (rw (f, b, a) at e) (f ∙ sym ls)

-- rotated by nothing and by all
pub rotated-none : (d : List ℕ) (k n m : ℕ) → m ≡ 0 → k + n ≤ length d → d ≡ rotated d k n m
rotated-none d k n m e h =
    let lm : 0 ≡ m = omega arith in
    let l : length (part d k n) ≡ n = length_part d k n h in
    cut-three d k n
    ∙ sym (rotated-mid d (take k d) [] (part d k n) (drop (k + n) d) k n m (cut-three d k n) (length-take-le k d (omega arith)) lm (omega arith))

pub rotated-all : (d : List ℕ) (k n m : ℕ) → m ≡ n → k + n ≤ length d → d ≡ rotated d k n m
rotated-all d k n m e h =
    let l : length (part d k n) ≡ n = length_part d k n h in
    cut-three d k n
    ∙ sym (rotated-mid d (take k d) (part d k n) [] (drop (k + n) d) k n m (cut-three d k n) (length-take-le k d (omega arith)) (omega arith) (omega arith))

-- what waited in front of z
pub waited : (a z s t : List ℕ) (m : ℕ) → length a ≡ m → s ≡ a → t ≡ take m (s ++ z) → t ≡ a
waited a z s t m l e f = f ∙ rw e (take_at a z m l)

-- t, the first m, put behind the others, which were moved down
pub few-first : (d o t : List ℕ) (m w : ℕ) → m ≤ length d → o ≡ copy_within d m (length d) 0 → t ≡ take m d → m ≤ w
    → put_mid (length d - m) w o t ≡ drop m d ++ take m d
few-first d o t m w h e f g =
    let k = length d - m in
    let l : length (drop m d) ≡ k = length-drop m d in
    let os : o ≡ drop m d ++ drop k d = rw (zero-add, take_all k (drop m d) (omega arith)) at e in
    let lo : length (drop k d) ≤ w = simp length-drop (omega arith) in
    rw (os, take_at (drop m d) (drop k d) k l, drop_at (drop m d) (drop k d) k l, drop_of_length-le (drop k d) lo, f, append-nil (take m d))

-- t, the last ones, put in front of the first m, which were moved up
pub few-last : (d o t : List ℕ) (m : ℕ) → m ≤ length d → o ≡ copy_within d 0 m (length d - m) → t ≡ drop m d
    → t ++ drop (length d - m) o ≡ drop m d ++ take m d
few-last d o t m h e f =
    let k = length d - m in
    let w : k + m ≡ length d = omega arith in
    let all : drop (k + m) d ≡ [] = drop_of_length-le d (omega arith) in
    let os : o ≡ take k d ++ take m d = rw (sub-zero, all, append-nil) at e in
    rw (os, drop_at (take k d) (take m d) k (length-take-le k d (omega arith)), f)

pub length-rotated : (d : List ℕ) (k n m : ℕ) → k + n ≤ length d → m ≤ n → length (rotated d k n m) ≡ length d
unfolding rotated
length-rotated d k n m h g =
    let a : length (part d (k + m) (n - m) ++ part d k m) ≡ n =
    rw (length-append, length_part d (k + m) (n - m) (omega arith), length_part d k m (omega arith)) (omega arith)
    in
    length_over d k (part d (k + m) (n - m) ++ part d k m) (omega arith)
