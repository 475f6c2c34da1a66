-- Laws of a record with one byte in the new order.
use Prim.Native.Nat.{ℕ, suc, ◌+◌, ◌≤◌, ◌<◌}
use mathlib.Core.Path.{◌≡◌, refl, ap, sym, ◌∙◌}
use mathlib.Core.Bool.{Bool, true, false}
use mathlib.Core.List.{List}
use native.Mathlib.Omega.{arith}
use lib.ListN.{length, get_or, set, length-set, get_or-eq_default}
use lib.Seq.{get_or-set_same, get_or-set_other, set_out, set-set, set-get_or, take-set-le, drop-set-lt}
use lib.Dec.{leb, eqb}
use borrow.Author.Tests.{leb-true, leb-false, eqb-true, eqb-false}
use Rattle.fields.specs.Bytes.{part}
use Rattle.fields.proofs.Laws.{part-part}
use Rattle.legacy.specs.Migration.{migrated_byte, migrated_at}
use Rattle.legacy.proofs.ByteLaws.{migrated-lt, migrated-zero, migrated-one}
use Rattle.legacy.proofs.RunLaws.{OneToOne, KeepsBytes}

pub at_here : (k : ℕ) (s : List ℕ) → get_or (migrated_at k s) k 0 ≡ migrated_byte (get_or s k 0)
at_here k s = by (leb (suc k) (length s)) refl
  where
    by : (t : Bool) → leb (suc k) (length s) ≡ t → get_or (migrated_at k s) k 0 ≡ migrated_byte (get_or s k 0)
    by true e = get_or-set_same s k (migrated_byte (get_or s k 0)) 0 (leb-true _ _ e)
    by false e =
        let h : length s < suc k = leb-false _ _ e in
        let o = set_out s k (migrated_byte (get_or s k 0)) (omega arith) in
        rw (o, get_or-eq_default s 0 {n = k} (omega arith)) (sym migrated-zero)

pub at_other : (k : ℕ) (s : List ℕ) (j : ℕ) → (j ≡ k → ⊥) → get_or (migrated_at k s) j 0 ≡ get_or s j 0
at_other k s j h = get_or-set_other s k j (migrated_byte (get_or s k 0)) 0 h

pub at_before : (k : ℕ) (s : List ℕ) (j n : ℕ) → j + n ≤ k → part (migrated_at k s) j n ≡ part s j n
at_before k s j n h =
    let x = migrated_byte (get_or s k 0) in
    let z : 0 + j ≡ j = omega arith in
    let a = rw z at (part-part (set s k x) 0 k j n h) in
    let b = rw z at (part-part s 0 k j n h) in
    sym a ∙ rw (take-set-le k s k x (omega arith)) b

pub at-behind : (k : ℕ) (s : List ℕ) (j n : ℕ) → k < j → part (migrated_at k s) j n ≡ part s j n
at-behind k s j n h = rw (drop-set-lt j s k (migrated_byte (get_or s k 0)) h)

pub at_long : (k : ℕ) (s : List ℕ) → length (migrated_at k s) ≡ length s
at_long k s = length-set s k (migrated_byte (get_or s k 0))

pub at_one : (k : ℕ) → OneToOne (migrated_at k)
at_one k s t a b e =
    let x = migrated_byte (get_or s k 0) in
    let y = migrated_byte (get_or t k 0) in
    let m : x ≡ y = sym (at_here k s) ∙ ap (λ (l : List ℕ). get_or l k 0) e ∙ at_here k t in
    let n = migrated-one (get_or s k 0) (get_or t k 0) (a k) (b k) m in
    -- both with the byte put back
    let p : set (set s k x) k (get_or s k 0) ≡ s = set-set s k x (get_or s k 0) ∙ set-get_or s k 0 in
    let q : set (set t k y) k (get_or t k 0) ≡ t = set-set t k y (get_or t k 0) ∙ set-get_or t k 0 in
    sym p ∙ rw (e, n) q

pub at-stays : (k : ℕ) (s : List ℕ) → get_or s k 0 ≡ 0 → migrated_at k s ≡ s
at-stays k s h =
    let e : migrated_byte (get_or s k 0) ≡ get_or s k 0 = rw h migrated-zero in
    rw e (set-get_or s k 0)

pub at-bytes : (k : ℕ) → KeepsBytes (migrated_at k)
at-bytes k s b j = by (eqb j k) refl
  where
    by : (t : Bool) → eqb j k ≡ t → get_or (migrated_at k s) j 0 < 256
    by true e =
        let h : j ≡ k = eqb-true j k e in
        rw (h, at_here k s) (migrated-lt (get_or s k 0) (b k))
    by false e = rw (at_other k s j (eqb-false j k e)) (b j)
