-- Laws of an exchange that can be taken back: bytes of a history put into a room, and those that leave put into the history or behind.
use Prim.Native.Nat.{ℕ, ◌+◌, ◌-◌, ◌≤◌, ◌<◌}
use mathlib.Core.Path.{◌≡◌, refl, ap, sym, ◌∙◌}
use mathlib.Core.Bool.{Bool, true, false, true≢false}
use mathlib.Core.List.{List, ◌++◌, append_assoc}
use native.Mathlib.Omega.{arith}
use lib.ListN.{length, take, drop, length-append, length-drop, take-append-drop}
use lib.Seq.{drop-drop, length-take-le}
use Rattle.fields.specs.Bytes.{part, over, zeros}
use Rattle.fields.specs.Rule.{is_valid, Validity}
use Rattle.fields.proofs.Laws.{length_part, length_over, length-zeros, part-over, drop-over}
use Rattle.m17.specs.declared.Edition.{Edition}
use Rattle.file_rule.specs.File.{file_rule}
use Rattle.buffers.specs.Cut.{cut}
use Rattle.buffers.specs.Splice.{spliced}
use Rattle.rotation.specs.Rotation.{rotated}
use Rattle.buffers.proofs.Laws.{spliced-whole, spliced-of, take-over-before}
use Rattle.rotation.proofs.RotationLaws.{cut-three, cut-four, over-mid, rotated-mid, length-rotated}
use Rattle.undo.specs.Undo.{Tried}
use Rattle.std.specs.Prelude.{Ok, Err}
use Rattle.std.specs.Result.{is_ok}

-- ---- a swap and a rotation taken back

over-again : (d : List ℕ) (k n : ℕ) (s : List ℕ) → k + n ≤ length d → length s ≡ n → over (over d k s) k (part d k n) ≡ d
over-again d k n s h e =
    let p = take k d in
    let u = part d k n in
    let q = drop (k + n) d in
    let lp : length p ≡ k = length-take-le k d (omega arith) in
    let lu : length u ≡ n = length_part d k n h in
    let a : over d k s ≡ p ++ (s ++ q) = ap (λ (l : List ℕ). over l k s) (cut-three d k n) ∙ over-mid p u s q k lp (lu ∙ sym e) in
    rw a (over-mid p s u q k lp (e ∙ sym lu) ∙ sym (cut-three d k n))

pub swap-back : (a x b y : List ℕ) (i j n : ℕ) → x ≡ over a i (part b j n) → y ≡ over b j (part a i n) → i + n ≤ length a → j + n ≤ length b
    → over x i (part y j n) ≡ a
swap-back a x b y i j n e f h g =
    let l : length (part a i n) ≡ n = length_part a i n h in
    let m : length (part b j n) ≡ n = length_part b j n g in
    let r : part y j n ≡ part a i n = rw f (part-over b j (part a i n) n (omega arith) l) in
    rw (r, e) (over-again a i n (part b j n) h m)

pub rotate-back : (d x : List ℕ) (k n m j : ℕ) → x ≡ rotated d k n m → j + m ≡ n → k + n ≤ length d → rotated x k n j ≡ d
rotate-back d x k n m j e f h =
    let p = take k d in
    let a = part d k m in
    let b = part d (k + m) j in
    let q = drop (k + m + j) d in
    let whole : d ≡ p ++ (a ++ (b ++ q)) = cut-four d k m j in
    let lp : length p ≡ k = length-take-le k d (omega arith) in
    let la : length a ≡ m = length_part d k m (omega arith) in
    let lb : length b ≡ j = length_part d (k + m) j (omega arith) in
    let x-is : x ≡ p ++ (b ++ (a ++ q)) = e ∙ rotated-mid d p a b q k n m whole lp la (omega arith) in
    rotated-mid x p b a q k n j x-is lp lb (omega arith) ∙ sym whole

-- what lies behind a swapped block is as it was
pub swap-behind : (y b a : List ℕ) (i j n : ℕ) → y ≡ over b j (part a i n) → i + n ≤ length a → j + n ≤ length b
    → drop (j + n) y ≡ drop (j + n) b
swap-behind y b a i j n e h g =
    let l : length (part a i n) ≡ n = length_part a i n h in
    let f : drop (j + length (part a i n)) (over b j (part a i n)) ≡ drop (j + length (part a i n)) b = drop-over b j (part a i n) (omega arith) in
    rw (e) (rw l at f)

-- ---- at least as many bytes come as leave

longer-pieces : (d p k b s r o : List ℕ) (i n j t : ℕ) → d ≡ p ++ (k ++ (b ++ (s ++ r))) → length p ≡ i → length k ≡ n → length b ≡ j
    → length s ≡ t → length o ≡ n + t → over (rotated d (i + n) (j + t) j) i o ≡ p ++ (o ++ (b ++ r))
longer-pieces d p k b s r o i n j t e lp lk lb ls lo =
    let whole : d ≡ (p ++ k) ++ (b ++ (s ++ r)) = e ∙ sym (append_assoc p k (b ++ (s ++ r))) in
    let l : length (p ++ k) ≡ i + n = rw (length-append, lp, lk) in
    let a : rotated d (i + n) (j + t) j ≡ p ++ ((k ++ s) ++ (b ++ r)) =
    rotated-mid d (p ++ k) b s r (i + n) (j + t) j whole l lb (omega arith)
    ∙ append_assoc p k (s ++ (b ++ r))
    ∙ ap (λ (u : List ℕ). p ++ u) (sym (append_assoc k s (b ++ r)))
    in
    let m : length (k ++ s) ≡ length o = rw (length-append, lk, ls, lo) in
    rw a (over-mid p (k ++ s) o (b ++ r) i lp m)

pub longer-is : (d o : List ℕ) (len p k : ℕ) → p + k ≤ len → len ≤ length d → len + length o ≤ length d + k → k ≤ length o
    → over (rotated d (p + k) (len - (p + k) + (length o - k)) (len - (p + k))) p o ≡ spliced d len p k o
unfolding zeros
longer-is d o len p k a h f g =
    let b = len - (p + k) in
    let t = length o - k in
    let q = drop (p + k + b) d in
    let n : p + k + b ≡ len = omega arith in
    let lq : length q ≡ length d - (p + k + b) = length-drop (p + k + b) d in
    let whole : d ≡ take p d ++ (part d p k ++ (part d (p + k) b ++ (take t q ++ drop t q))) =
    rw (take-append-drop t q) (cut-four d p k b)
    in
    let lt : length (take t q) ≡ t = length-take-le t q (omega arith) in
    let rest : drop t q ≡ drop (len + t) d = drop-drop t (p + k + b) d ∙ rw n in
    let z : k - length o ≡ 0 = omega arith in
    longer-pieces d (take p d) (part d p k) (part d (p + k) b) (take t q) (drop t q) o p k b t whole (length-take-le p d (omega arith))
    (length_part d p k (omega arith)) (length_part d (p + k) b (omega arith)) lt (omega arith)
    ∙ sym (
    spliced-whole d len p k o a h f
    ∙ rw (z, ← rest, append_assoc (take p d) (o ++ part d (p + k) b) (drop t q), append_assoc o (part d (p + k) b) (drop t q))
    )

-- ---- fewer bytes come than leave

shorter-pieces : (d p k s b r o z : List ℕ) (i n j t : ℕ) → d ≡ p ++ (k ++ (s ++ (b ++ r))) → length p ≡ i → length k ≡ length o → length o ≡ n
    → length s ≡ t → length b ≡ j → length z ≡ t
    → over (rotated (over d i o) (i + n) (t + j) t) (i + n + j) z ≡ (p ++ (o ++ b)) ++ (z ++ r)
shorter-pieces d p k s b r o z i n j t e lp lk lo ls lb lz =
    let x : over d i o ≡ (p ++ o) ++ (s ++ (b ++ r)) =
    ap (λ (u : List ℕ). over u i o) e ∙ over-mid p k o (s ++ (b ++ r)) i lp lk ∙ sym (append_assoc p o (s ++ (b ++ r)))
    in
    let l : length (p ++ o) ≡ i + n = rw (length-append, lp, lo) in
    let y : rotated (over d i o) (i + n) (t + j) t ≡ ((p ++ o) ++ b) ++ (s ++ r) =
    rotated-mid (over d i o) (p ++ o) s b r (i + n) (t + j) t x l ls (omega arith) ∙ sym (append_assoc (p ++ o) b (s ++ r))
    in
    let m : length ((p ++ o) ++ b) ≡ i + n + j = rw (length-append (p ++ o) b, l, lb) in
    rw y (over-mid ((p ++ o) ++ b) s z r (i + n + j) m (ls ∙ sym lz) ∙ ap (λ (u : List ℕ). u ++ (z ++ r)) (append_assoc p o b))

pub shorter-is : (d o : List ℕ) (len p k : ℕ) → p + k ≤ len → len ≤ length d → length o < k
    → over (rotated (over d p o) (p + length o) (k - length o + (len - (p + k))) (k - length o)) (len - (k - length o)) (zeros (k - length o))
    ≡ spliced d len p k o
shorter-is d o len p k a h g =
    let b = len - (p + k) in
    let m = length o in
    let t = k - length o in
    let q = drop (p + m + t) d in
    let n : p + m + t ≡ p + k = omega arith in
    let i : len - t ≡ p + m + b = omega arith in
    let w : len + (m - k) ≡ p + k + b = omega arith in
    let whole : d ≡ take p d ++ (part d p m ++ (part d (p + m) t ++ (part d (p + k) b ++ drop (p + k + b) d))) =
    cut-four d p m t
    ∙ ap (λ (u : List ℕ). take p d ++ (part d p m ++ (part d (p + m) t ++ u)))
    (rw n (sym (rw (← drop-drop b (p + k) d) (take-append-drop b (drop (p + k) d)))))
    in
    let o_is =
    shorter-pieces d (take p d) (part d p m) (part d (p + m) t) (part d (p + k) b) (drop (p + k + b) d) o (zeros t) p m b t whole
    (length-take-le p d (omega arith)) (length_part d p m (omega arith)) refl (length_part d (p + m) t (omega arith))
    (length_part d (p + k) b (omega arith)) (length-zeros t)
    in
    let s-is : spliced d len p k o ≡ (take p d ++ (o ++ part d (p + k) b)) ++ (zeros t ++ drop (p + k + b) d) =
    spliced-whole d len p k o a h (omega arith) ∙ rw w
    in
    rw (i, s-is) o_is

-- ---- what reading the result gives

-- the content after a splice that ends at n
content-is : (d x o : List ℕ) (len p k n : ℕ) → x ≡ spliced d len p k o → n ≡ len - k + length o → p + k ≤ len → len ≤ length d
    → len + length o ≤ length d + k → take n x ≡ cut (take len d) p k o
unfolding cut
content-is d x o len p k n e f a h g = rw (e, f) (spliced-of d len p k o a h g (take len d) refl)

-- what the test of a validity says of the bytes that were validated
ok-is : (v : Validity) (t : Bool) → is_ok v ≡ t → t ≡ is_valid v
unfolding is_valid
ok-is (Ok u) t e = sym e
ok-is (Err x) t e = sym e

validated-is : (ed : Edition) (v : Validity) (s t : List ℕ) (b : Bool) → v ≡ file_rule ed s → s ≡ t → is_ok v ≡ b → b ≡ is_valid (file_rule ed t)
validated-is ed v s t b e f g = ok-is v b g ∙ ap is_valid (e ∙ ap (file_rule ed) f)

-- ---- the exchange, validated: x is the room after the first step, y after the second, z the history after the swap

module _ (d h x y z : List ℕ) (len p k body m : ℕ) (v : Validity) (inside : p + k ≤ len) (held : len ≤ length d)
    (fits : len + m ≤ length d + k) (stored : body + m ≤ length h) where
  taken-length : length (part h body m) ≡ m
  taken-length = length_part h body m stored

  tried-valid : (ed : Edition) (w s : List ℕ) (i : ℕ) (r : List ℕ) → w ≡ spliced d len p k (part h body m) → v ≡ file_rule ed s
      → s ≡ cut (take len d) p k (part h body m) → is_ok v ≡ true → z ≡ over h body (part r i m) → i + m ≤ length r
      → Tried ed d len p k h body m true w z
  tried-valid ed w s i r e f c g j l =
      record {
        validated = validated-is ed v s (cut (take len d) p k (part h body m)) true f c g;
        room-is = e;
        behind-is = swap-behind z h r i body m j l stored;
        kept = λ n. absurd (true≢false n);
      }

  tried-bad : (ed : Edition) (w s u : List ℕ) → w ≡ d → u ≡ h → v ≡ file_rule ed s → s ≡ cut (take len d) p k (part h body m) → is_ok v ≡ false
      → Tried ed d len p k h body m false w u
  tried-bad ed w s u e f g c j =
      record {
        validated = validated-is ed v s (cut (take len d) p k (part h body m)) false g c j;
        room-is = e;
        behind-is = rw f;
        kept = λ n. f;
      }

  -- at least as many bytes come as leave: rotated, then swapped
  module _ (ed : Edition) (more : k ≤ m) (e : x ≡ rotated d (p + k) (len - (p + k) + (m - k)) (len - (p + k))) (f : (y ≡ over x p (part h body m))
      × (z ≡ over h body (part x p m))) (j : v ≡ file_rule ed (take (len + (m - k)) y)) where
    longer-room : y ≡ spliced d len p k (part h body m)
    longer-room =
        let l = taken-length in
        let g = longer-is d (part h body m) len p k inside held (omega arith) (omega arith) in
        rw (f.0, e) (rw l at g)

    longer-size : length x ≡ length d
    longer-size = rw e (length-rotated d (p + k) (len - (p + k) + (m - k)) (len - (p + k)) (omega arith) (omega arith))

    longer-content : take (len + (m - k)) y ≡ cut (take len d) p k (part h body m)
    longer-content =
        let l = taken-length in
        content-is d y (part h body m) len p k (len + (m - k)) longer-room (omega arith) inside held (omega arith)

    pub longer-valid : is_ok v ≡ true → Tried ed d len p k h body m true y z
    longer-valid g =
        let l = longer-size in
        tried-valid ed y (take (len + (m - k)) y) p x longer-room j longer-content g f.1 (omega arith)

    -- both taken back: y₁ and z₁ are the buffers after the second swap, w the room after the second rotation
    pub longer-bad : (y₁ z₁ w : List ℕ) → is_ok v ≡ false → (y₁ ≡ over y p (part z body m)) × (z₁ ≡ over z body (part y p m))
        → w ≡ rotated y₁ (p + k) (len - (p + k) + (m - k)) (m - k) → Tried ed d len p k h body m false w z₁
    longer-bad y₁ z₁ w g q t =
        let l = longer-size in
        let y-is : y₁ ≡ x = q.0 ∙ swap-back x y h z p body m f.0 f.1 (omega arith) stored in
        let z-is : z₁ ≡ h = q.1 ∙ swap-back h z x y body p m f.1 f.0 stored (omega arith) in
        let w-is : w ≡ d =
        t
        ∙ rotate-back d y₁ (p + k) (len - (p + k) + (m - k)) (len - (p + k)) (m - k) (y-is ∙ e) (omega arith) (omega arith)
        in
        tried-bad ed w (take (len + (m - k)) y) z₁ w-is z-is j longer-content g

  -- fewer bytes come than leave: swapped, then rotated
  module _ (ed : Edition) (less : m < k) (e : (x ≡ over d p (part h body m)) × (z ≡ over h body (part d p m)))
      (f : y ≡ rotated x (p + m) (k - m + (len - (p + k))) (k - m)) (j : v ≡ file_rule ed (take (len - (k - m)) y)) where
    shorter-room : over y (len - (k - m)) (zeros (k - m)) ≡ spliced d len p k (part h body m)
    shorter-room =
        let l = taken-length in
        let g = shorter-is d (part h body m) len p k inside held (omega arith) in
        rw (f, e.0) (rw l at g)

    shorter-size : length x ≡ length d
    shorter-size = let l = taken-length in rw e.0 (length_over d p (part h body m) (omega arith))

    shorter-rotated : length y ≡ length d
    shorter-rotated =
        let l = shorter-size in
        rw f (length-rotated x (p + m) (k - m + (len - (p + k))) (k - m) (omega arith) (omega arith)) ∙ l

    shorter-content : take (len - (k - m)) y ≡ cut (take len d) p k (part h body m)
    shorter-content =
        let l = taken-length in
        let n = shorter-rotated in
        sym (take-over-before y (len - (k - m)) (zeros (k - m)) (len - (k - m)) (omega arith) (omega arith))
        ∙ content-is d (over y (len - (k - m)) (zeros (k - m))) (part h body m) len p k (len - (k - m)) shorter-room (omega arith) inside held
        (omega arith)

    pub shorter-valid : (w : List ℕ) → is_ok v ≡ true → w ≡ over y (len - (k - m)) (zeros (k - m)) → Tried ed d len p k h body m true w z
    shorter-valid w g t =
        tried-valid ed w (take (len - (k - m)) y) p d (t ∙ shorter-room) j shorter-content g e.1 (omega arith)

    pub shorter-bad : (y₁ z₁ w : List ℕ) → is_ok v ≡ false → y₁ ≡ rotated y (p + m) (k - m + (len - (p + k))) (len - (p + k))
        → (w ≡ over y₁ p (part z body m)) × (z₁ ≡ over z body (part y₁ p m)) → Tried ed d len p k h body m false w z₁
    shorter-bad y₁ z₁ w g t q =
        let l = shorter-size in
        let y-is : y₁ ≡ x = t ∙ rotate-back x y (p + m) (k - m + (len - (p + k))) (k - m) (len - (p + k)) f (omega arith) (omega arith) in
        let w-is : w ≡ d = q.0 ∙ rw y-is (swap-back d x h z p body m e.0 e.1 (omega arith) stored) in
        let z-is : z₁ ≡ h = q.1 ∙ rw y-is (swap-back h z d x body p m e.1 e.0 stored (omega arith)) in
        tried-bad ed w (take (len - (k - m)) y) z₁ w-is z-is j shorter-content g
