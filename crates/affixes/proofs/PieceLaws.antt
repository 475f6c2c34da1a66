-- The common ending of a list and one that is given in two pieces.
use Prim.Native.Nat.{ℕ, suc, ◌+◌, ◌-◌, ◌≤◌, ◌<◌}
use mathlib.Core.Path.{◌≡◌, refl, ap, sym, ◌∙◌}
use mathlib.Core.Bool.{Bool, true, false}
use mathlib.Core.List.{List, [], ◌∷◌, ◌++◌, reverse, reverse-append, append-nil}
use native.Mathlib.Omega.{arith}
use native.Mathlib.Nat.{zero-add}
use lib.ListN.{length, get_or, take, drop, length-reverse, length-drop, take-append-drop}
use lib.Seq.{drop_at, length-take-le, take-take, take-suc}
use lib.Dec.{eqb}
use borrow.Author.Tests.{eqb-true, eqb-false}
use denote.Ref.{Bor}
use Rattle.std.specs.List.{flat_map}
use Rattle.std.proofs.lemmas.Grind.{flat_map-append}
use Rattle.affixes.specs.Common.{common_prefix, common_suffix}
use Rattle.affixes.proofs.Laws.{common_prefix-same, common_prefix-differ, common_suffix-left, common_suffix-right}

-- ---- the common beginning of r and x ++ y

stop-test : (u v : ℕ) (r x y : List ℕ) (t : Bool) → eqb u v ≡ t → (common_prefix r x < length x → common_prefix r (x ++ y) ≡ common_prefix r x)
    → common_prefix (u ∷ r) (v ∷ x) < suc (length x) → common_prefix (u ∷ r) (v ∷ (x ++ y)) ≡ common_prefix (u ∷ r) (v ∷ x)
stop-test u v r x y true e f h =
    let p = common_prefix-same u v r x (eqb-true u v e) in
    let q = common_prefix-same u v r (x ++ y) (eqb-true u v e) in
    let g = f (omega arith) in
    omega arith
stop-test u v r x y false e f h =
    let p = common_prefix-differ u v r x (eqb-false u v e) in
    let q = common_prefix-differ u v r (x ++ y) (eqb-false u v e) in
    omega arith

-- it ends inside x
start-stops : (r x y : List ℕ) → common_prefix r x < length x → common_prefix r (x ++ y) ≡ common_prefix r x
unfolding common_prefix
start-stops [] x y h = refl
start-stops (u ∷ r) [] y h = absurd (omega arith)
start-stops (u ∷ r) (v ∷ x) y h = stop-test u v r x y (eqb u v) refl (start-stops r x y) h

go-test : (u v : ℕ) (r x y : List ℕ) (t : Bool) → eqb u v ≡ t
    → (length x ≤ common_prefix r x → common_prefix r (x ++ y) ≡ length x + common_prefix (drop (length x) r) y)
    → suc (length x) ≤ common_prefix (u ∷ r) (v ∷ x)
    → common_prefix (u ∷ r) (v ∷ (x ++ y)) ≡ suc (length x) + common_prefix (drop (length x) r) y
go-test u v r x y true e f h =
    let p = common_prefix-same u v r x (eqb-true u v e) in
    let q = common_prefix-same u v r (x ++ y) (eqb-true u v e) in
    let g = f (omega arith) in
    omega arith
go-test u v r x y false e f h =
    let p = common_prefix-differ u v r x (eqb-false u v e) in
    absurd (omega arith)

-- it goes on behind x
start-goes : (r x y : List ℕ) → length x ≤ common_prefix r x → common_prefix r (x ++ y) ≡ length x + common_prefix (drop (length x) r) y
unfolding common_prefix
start-goes r [] y h = sym (zero-add (common_prefix r y))
start-goes [] (v ∷ x) y h = absurd (omega arith)
start-goes (u ∷ r) (v ∷ x) y h = go-test u v r x y (eqb u v) refl (start-goes r x y) h

-- ---- the common ending of s and a ++ b

drop-reverse : (l : List ℕ) (n : ℕ) → n ≤ length l → drop n (reverse l) ≡ reverse (take (length l - n) l)
drop-reverse l n h =
    let k = length l - n in
    let f : length (reverse (drop k l)) ≡ n = rw (length-reverse, length-drop) (omega arith) in
    ap (λ (x : List ℕ). drop n (reverse x)) (sym (take-append-drop k l))
    ∙ rw (reverse-append (take k l) (drop k l)) (drop_at (reverse (drop k l)) (reverse (take k l)) n f)

-- it ends inside b; w is the whole
pub piece-stops : (s w a b : List ℕ) (e : ℕ) → w ≡ a ++ b → e ≡ common_suffix s b → e < length b → e ≡ common_suffix s w
unfolding common_suffix
piece-stops s w a b e k g h =
    let l = length-reverse b in
    g ∙ sym (rw (k, reverse-append a b) (start-stops (reverse s) (reverse b) (reverse a) (omega arith)))

-- it goes on before b
pub common_suffix-piece : (s a b : List ℕ) → length b ≤ common_suffix s b
    → common_suffix s (a ++ b) ≡ length b + common_suffix (take (length s - length b) s) a
unfolding common_suffix
common_suffix-piece s a b h =
    let l = length-reverse b in
    let n : length b ≤ length s = omega (arith, common_suffix-left s b) in
    let p = start-goes (reverse s) (reverse b) (reverse a) (omega arith) in
    rw (reverse-append a b, p, l, drop-reverse s (length b) n)

pub piece-goes : (s w a b : List ℕ) (e r : ℕ) → w ≡ a ++ b → e ≡ common_suffix s b → length b ≤ e → r ≡ common_suffix (take (length s - e) s) a
    → e + r ≡ common_suffix s w
piece-goes s w a b e r i g h k =
    let j : e ≡ length b = omega (arith, common_suffix-right s b) in
    let f : length b ≤ common_suffix s b = omega arith in
    rw (i, common_suffix-piece s a b f, k, j)

-- what is left of s bounds what more they have in common
pub piece-left : (s b : List ℕ) (e : ℕ) → e ≡ common_suffix s b → e ≤ length s
piece-left s b e g = omega (arith, common_suffix-left s b)

pub piece-fits : (s a : List ℕ) (e r : ℕ) → e ≤ length s → r ≡ common_suffix (take (length s - e) s) a → e + r ≤ length s
piece-fits s a e r h g =
    let l : length (take (length s - e) s) ≡ length s - e = length-take-le (length s - e) s (omega arith) in
    omega (arith, common_suffix-left (take (length s - e) s) a)

-- ---- piece after piece, from the last one on

-- e bytes of s agree with the end of w, and k more with x, the last of the pieces that are left; rest are those before it
pub record Turn (s w rest x : List ℕ) (e k : ℕ) : Type 0 where
  pub room : e + k ≤ length s
  pub stops : k < length x → e + k ≡ common_suffix s w
  pub goes : length x ≤ k → common_suffix s w ≡ e + k + common_suffix (take (length s - (e + k)) s) rest

pub turn : (s w left rest x : List ℕ) (e k : ℕ) → e ≤ length s → common_suffix s w ≡ e + common_suffix (take (length s - e) s) left
    → left ≡ rest ++ x → k ≡ common_suffix (take (length s - e) s) x → Turn s w rest x e k
turn s w left rest x e k he inv el ek =
    let t = take (length s - e) s in
    let lt : length t ≡ length s - e = length-take-le (length s - e) s (omega arith) in
    let room : k ≤ length t = piece-left t x k ek in
    let n : length s - e - k ≡ length s - (e + k) = omega arith in
    let m : take (length t - k) t ≡ take (length s - (e + k)) s =
    rw (lt, n) (take-take (length s - (e + k)) (length s - e) s (omega arith))
    in
    record {
      room = omega arith;
      stops = λ h. omega (arith, piece-stops t left rest x k el ek h);
      goes = λ h. omega (arith, piece-goes t left rest x k (common_suffix (take (length s - (e + k)) s) rest) el ek h (rw m));
    }

pub turn-done : (s w : List ℕ) (e : ℕ) → common_suffix s w ≡ e + common_suffix (take (length s - e) s) [] → e ≡ common_suffix s w
turn-done s w e h = omega (arith, common_suffix-right (take (length s - e) s) [])

-- the bytes of all pieces
abbrev pub joined : List (Bor (List ℕ)) → List ℕ
joined ps = flat_map (λ (p : Bor (List ℕ)). p.now) ps

pub joined-last : (ps : List (Bor (List ℕ))) (i : ℕ) (d : Bor (List ℕ)) → 0 < i → i ≤ length ps
    → joined (take i ps) ≡ joined (take (i - 1) ps) ++ (get_or ps (i - 1) d).now
joined-last ps i d h g =
    let j : i ≡ suc (i - 1) = omega arith in
    let f : i - 1 < length ps = omega arith in
    ap (λ (n : ℕ). joined (take n ps)) j
    ∙ rw (take-suc ps (i - 1) d f, flat_map-append (λ (p : Bor (List ℕ)). p.now) (take (i - 1) ps) (get_or ps (i - 1) d ∷ []), append-nil)
