-- Laws of parts, of writing over, of numbers in bytes, and of "the first bad field answers".
use Prim.Native.Nat.{ℕ, zero, suc, ◌+◌, ◌*◌, ◌-◌, ◌/◌, ◌%◌, ◌^◌, ◌≤◌, ◌<◌}
use mathlib.Core.Path.{◌≡◌, refl, ap, sym, ◌∙◌}
use mathlib.Core.Bool.{Bool, true, false, ◌&&◌, cond}
use mathlib.Core.List.{List, [], ◌∷◌, ◌++◌, append_assoc, append-nil}
use native.Mathlib.Omega.{arith}
use native.Mathlib.Numerals.{add-one, one-add}
use native.Mathlib.Nat.{add-zero, add-suc, zero-add, suc-add, add_assoc, pow-succ', pow-suc, pow-zero, one-le-pow}
use native.Mathlib.Nat.{mul-le-mul_right, div-one, div-div-eq-div-mul, sub-zero}
use lib.ListN.{length, get_or, take, drop, set, replicate, length-append, length-take, length-drop, length-replicate}
use lib.ListN.{take-append-drop, replicate-append-replicate}
use lib.Seq.{length-take-le, paste, take_all, take_at, drop_at, take-take, drop-drop, drop-nil, take-nil}
use lib.Seq.{drop-cons, drop-append-le, drop-append-add, drop-append_seam, take-append-le, take-append_seam, take-add}
use lib.Seq.{take-suc, set_split, get_or-take, get_or-drop, get_or-append-add}
use lib.Arith.{digits_div, mod-mul}
use lib.Dec.{leb}
use borrow.Author.Tests.{le-leb, lt-leb, leb-true}
use borrow.Rule.Slice.PartMut.{put_mid}
use Rattle.std.specs.Int.{Width, byte_len, bytes_low_first, bytes_high_first, to_le_bytes, sum_through, byte_worth}
use Rattle.std.specs.List.{copy_within, slice_index}
use Rattle.fields.specs.Bytes.{part, zeros, over, little, little_bytes, big_from, big, big_bytes, num}
pub use Rattle.fields.specs.Bytes.{AllBytes}
use Rattle.fields.specs.Rule.{◌then◌, is_valid, unless, field_of, each, written}
use Rattle.std.specs.Prelude.{Ok, Err}
use Rattle.format.specs.declared.refusals.Reason.TheVariants as reason
use Rattle.fields.specs.Rule.{Validity, Valid, Refused}
use Rattle.format.specs.declared.refusals.Reason.{Reason}
use Rattle.format.specs.declared.refusals.Refusal.{Refusal}

-- ---- parts

pub length_part : (s : List ℕ) (k n : ℕ) → k + n ≤ length s → length (part s k n) ≡ n
length_part s k n h = simp (length-take, length-drop) (omega arith)

pub get_d_part : (s : List ℕ) (k n i : ℕ) → i < n → get_or (part s k n) i 0 ≡ get_or s (k + i) 0
get_d_part s k n i h = rw (get_or-take, get_or-drop)

pub get_or-part-one : (s : List ℕ) (k : ℕ) → get_or (part s k 1) 0 0 ≡ get_or s k 0
get_or-part-one s k = get_d_part s k 1 0 (omega arith) ∙ rw add-zero

-- the part at the front of a longer part of l
take-drop-take : (l : List ℕ) (k n w : ℕ) → k + n ≤ w → take n (drop k (take w l)) ≡ take n (drop k l)
take-drop-take l zero n w h = take-take n w l (omega arith)
take-drop-take l (suc k) n zero h = absurd (omega arith)
take-drop-take [] (suc k) n (suc w) h = refl
take-drop-take (x ∷ l) (suc k) n (suc w) h = take-drop-take l k n w (omega arith)

pub part-part : (s : List ℕ) (p w k n : ℕ) → k + n ≤ w → part (part s p w) k n ≡ part s (p + k) n
part-part s p w k n h = take-drop-take (drop p s) k n w h ∙ rw drop-drop

pub part-add : (s : List ℕ) (k m n : ℕ) → part s k (m + n) ≡ part s k m ++ part s (k + m) n
part-add s k m n = take-add m n (drop k s) ∙ rw drop-drop

-- a part that is whole lies inside
pub part-inside : (s : List ℕ) (k n : ℕ) → 0 < n → n ≤ length (part s k n) → k + n ≤ length s
part-inside s k n h g = omega (arith, simp (length-take, length-drop) at g)

pub part_whole : (s : List ℕ) (k n : ℕ) → n ≤ length (part s k n) → length (part s k n) ≡ n
part_whole s k n h =
    let most : length (part s k n) ≤ n = rw length-take (omega arith) in
    omega arith

-- one byte more, at the end and in front
pub part-suc : (s : List ℕ) (k i : ℕ) → k + i < length s → part s k (suc i) ≡ part s k i ++ (get_or s (k + i) 0 ∷ [])
part-suc s k i h = take-suc (drop k s) i 0 (simp length-drop (omega arith)) ∙ rw get_or-drop

pub part-cons : (s : List ℕ) (k n : ℕ) → k < length s → part s k (suc n) ≡ get_or s k 0 ∷ part s (suc k) n
part-cons s k n h = rw (drop-cons s k 0 h)

pub part-next : (s : List ℕ) (k i n : ℕ) → k + i < length s → part s (k + i) (suc n) ≡ get_or s (k + i) 0 ∷ part s (k + suc i) n
part-next s k i n h = part-cons s (k + i) n h ∙ rw (← add-suc k i)

pub part-all : (s : List ℕ) (n : ℕ) → length s ≤ n → part s 0 n ≡ s
part-all s n h = take_all n s h

-- a part of two lists: left of the seam, at it and right of it
pub part_left : (a b : List ℕ) (k n : ℕ) → k + n ≤ length a → part (a ++ b) k n ≡ part a k n
part_left a b k n h =
    let f : k ≤ length a = omega arith in
    let g : n ≤ length (drop k a) = simp length-drop (omega arith) in
    rw (drop-append-le k a b f, take-append-le n (drop k a) b g)

pub part-seam : (a b : List ℕ) (n : ℕ) → part (a ++ b) (length a) n ≡ take n b
part-seam a b n = rw drop-append_seam

pub part_right : (a b : List ℕ) (k n : ℕ) → part (a ++ b) (length a + k) n ≡ part b k n
part_right a b k n = rw drop-append-add

pub part-past : (a b : List ℕ) (k n : ℕ) → length a ≤ k → part (a ++ b) k n ≡ part b (k - length a) n
part-past a b k n h =
    let e : k ≡ length a + (k - length a) = omega arith in
    ap (λ (j : ℕ). part (a ++ b) j n) e ∙ part_right a b (k - length a) n

-- the middle one of three lists
pub part_at : (a b c : List ℕ) (k n : ℕ) → length a ≡ k → length b ≡ n → part (a ++ (b ++ c)) k n ≡ b
part_at a b c k n ha hb = rw (drop_at a (b ++ c) k ha, take_at b c n hb)

-- the last one of two lists
pub part-last : (a b : List ℕ) (k n : ℕ) → length a ≡ k → length b ≡ n → part (a ++ b) k n ≡ b
part-last a b k n ha hb =
    let f : length b ≤ n = omega arith in
    rw (drop_at a b k ha, take_all n b f)

-- a has n bytes, as a record, from which antt finds a and n
pub record Long (a : List ℕ) (n : ℕ) : Type 0 where
  pub long : length a ≡ n

pub long-byte : (b : ℕ) → Long (b ∷ []) 1
long-byte b = record { long = refl }

pub long-append : {a b : List ℕ} {m n : ℕ} → Long a m → Long b n → Long (a ++ b) (m + n)
long-append {a} {b} ha hb = record { long = length-append a b ∙ rw (ha.long, hb.long) }

pub long-part : (s : List ℕ) (k n : ℕ) → k + n ≤ length s → Long (part s k n) n
long-part s k n h = record { long = length_part s k n h }

-- in a chain a ++ (b ++ (c ++ ..)): the first one, and past the first one
pub part-front : {a : List ℕ} {n : ℕ} → Long a n → (b : List ℕ) → part (a ++ b) 0 n ≡ a
part-front {a} {n} h b = take_at a b n h.long

pub part-skip : {a : List ℕ} {j : ℕ} → Long a j → (b : List ℕ) (k n : ℕ) → part (a ++ b) (j + k) n ≡ part b k n
part-skip {a} h b k n = rw (← h.long) (part_right a b k n)

pub get_or-skip : {a : List ℕ} {j : ℕ} → Long a j → (b : List ℕ) (k : ℕ) → get_or (a ++ b) (j + k) 0 ≡ get_or b k 0
get_or-skip {a} h b k = rw (← h.long) (get_or-append-add a b k 0)

pub num-skip : {a : List ℕ} {j : ℕ} → Long a j → (b : List ℕ) (k n : ℕ) → num (a ++ b) (j + k) n ≡ num b k n
num-skip h b k n = ap little (part-skip h b k n)

-- ---- zeros

pub length-zeros : (n : ℕ) → length (zeros n) ≡ n
unfolding zeros
length-zeros n = length-replicate n 0

pub long-zeros : (n : ℕ) → Long (zeros n) n
long-zeros n = record { long = length-zeros n }

pub drop-zeros : (m n : ℕ) → drop m (zeros (m + n)) ≡ zeros n
unfolding zeros
drop-zeros zero n = rw zero-add
drop-zeros (suc m) n = rw suc-add (drop-zeros m n)

pub zeros-append : (m n : ℕ) → zeros m ++ zeros n ≡ zeros (m + n)
unfolding zeros
zeros-append m n = replicate-append-replicate m n 0

-- ---- writing over

pub length_over : (d : List ℕ) (k : ℕ) (s : List ℕ) → k + length s ≤ length d → length (over d k s) ≡ length d
unfolding over
length_over d k s h = simp (length-append, length-take, length-drop) (omega arith)

head-length : (d : List ℕ) (k : ℕ) (s : List ℕ) → k ≤ length d → length (take k d ++ s) ≡ k + length s
head-length d k s h = rw (length-append, length-take-le k d h)

-- what stands before the end of what was written, and what stands after it
pub take-over : (d : List ℕ) (k : ℕ) (s : List ℕ) → k ≤ length d → take (k + length s) (over d k s) ≡ take k d ++ s
unfolding over
take-over d k s h =
    rw (← append_assoc (take k d) s (drop (k + length s) d))
    (take_at (take k d ++ s) (drop (k + length s) d) (k + length s) (head-length d k s h))

pub drop-over : (d : List ℕ) (k : ℕ) (s : List ℕ) → k ≤ length d → drop (k + length s) (over d k s) ≡ drop (k + length s) d
unfolding over
drop-over d k s h =
    rw (← append_assoc (take k d) s (drop (k + length s) d))
    (drop_at (take k d ++ s) (drop (k + length s) d) (k + length s) (head-length d k s h))

-- what was written is read again
pub part-over : (d : List ℕ) (k : ℕ) (s : List ℕ) (n : ℕ) → k ≤ length d → length s ≡ n → part (over d k s) k n ≡ s
unfolding over
part-over d k s n h e = part_at (take k d) s (drop (k + length s) d) k n (length-take-le k d h) e

pub over_zero : (d s : List ℕ) → over d 0 s ≡ s ++ drop (length s) d
unfolding over
over_zero d s = rw zero-add

-- what has been written so far, then zeros: the next field
pub over-front : (w v : List ℕ) (n : ℕ) → over (w ++ zeros (length v + n)) (length w) v ≡ (w ++ v) ++ zeros n
unfolding over
over-front w v n =
    rw (
      take-append_seam w (zeros (length v + n)),
      drop-append-add w (zeros (length v + n)) (length v),
      drop-zeros (length v) n,
    )
    (sym (append_assoc w v (zeros n)))

pub over-front-at : (w v : List ℕ) (k m n : ℕ) → k ≡ length w → m ≡ length v + n → over (w ++ zeros m) k v ≡ (w ++ v) ++ zeros n
over-front-at w v k m n e f = rw (e, f) (over-front w v n)

-- the same, with what is left as a difference
pub over-place : (w v : List ℕ) (k m : ℕ) → length w ≡ k → length v ≤ m → over (w ++ zeros m) k v ≡ (w ++ v) ++ zeros (m - length v)
over-place w v k m e h = over-front-at w v k m (m - length v) (sym e) (omega arith)

-- two fields that lie side by side; o is the list after the first
over-of : (o d : List ℕ) (k : ℕ) (s : List ℕ) (j : ℕ) (t : List ℕ) → j ≡ k + length s → take (k + length s) o ≡ take k d ++ s
    → drop (k + length s) o ≡ drop (k + length s) d → over o j t ≡ over d k (s ++ t)
unfolding over
over-of o d k s j t e p q =
    let g : drop (k + length s + length t) o ≡ drop (k + length s + length t) d =
    sym (drop-drop (length t) (k + length s) o) ∙ ap (λ (l : List ℕ). drop (length t) l) q ∙ drop-drop (length t) (k + length s) d
    in
    rw (e, p, g, length-append, ← add_assoc k (length s) (length t)) (simp append_assoc)

pub over-over : (d : List ℕ) (k : ℕ) (s : List ℕ) (j : ℕ) (t : List ℕ) → j ≡ k + length s → k ≤ length d
    → over (over d k s) j t ≡ over d k (s ++ t)
over-over d k s j t e h = over-of (over d k s) d k s j t e (take-over d k s h) (drop-over d k s h)

pub over-beside : (d : List ℕ) (k : ℕ) (s t : List ℕ) → k ≤ length d → over (over d k s) (k + length s) t ≡ over d k (s ++ t)
over-beside d k s t h = over-over d k s (k + length s) t refl h

-- a call that writes t right behind s: o is the list before the call and p the list after it
pub over-then : (o p d : List ℕ) (k : ℕ) (s : List ℕ) (j : ℕ) (t : List ℕ) {n : ℕ} → Long s n → o ≡ over d k s → p ≡ over o j t
    → j ≡ k + n → k ≤ length d → p ≡ over d k (s ++ t)
over-then o p d k s j t l e f g h = rw (f, e) (over-over d k s j t (g ∙ rw (← l.long)) h)

-- one byte, two and three
pub over-byte : (d : List ℕ) (k b : ℕ) → k < length d → set d k b ≡ over d k (b ∷ [])
unfolding over
over-byte d k b h = rw (add-one, set_split d k b h)

pub over-two : (d : List ℕ) (k a b : ℕ) → k + 2 ≤ length d → set (set d k a) (k + 1) b ≡ over d k (a ∷ b ∷ [])
over-two d k a b h =
    let f : k < length d = omega arith in
    let g : k + 1 < length (over d k (a ∷ [])) = rw (length_over d k (a ∷ []) (omega arith)) (omega arith) in
    rw (over-byte d k a f, over-byte (over d k (a ∷ [])) (k + 1) b g) (over-over d k (a ∷ []) (k + 1) (b ∷ []) refl (omega arith))

pub over-three : (d : List ℕ) (k a b c : ℕ) → k + 3 ≤ length d
    → set (set (set d k a) (k + 1) b) (k + 2) c ≡ over d k (a ∷ b ∷ c ∷ [])
over-three d k a b c h =
    let f : k + 2 ≤ length d = omega arith in
    let g : k + 2 < length (over d k (a ∷ b ∷ [])) = rw (length_over d k (a ∷ b ∷ []) (omega arith)) (omega arith) in
    rw (over-two d k a b f, over-byte (over d k (a ∷ b ∷ [])) (k + 2) c g)
    (over-over d k (a ∷ b ∷ []) (k + 2) (c ∷ []) refl (omega arith))

pub over_none : (d : List ℕ) (k : ℕ) → d ≡ over d k []
unfolding over
over_none d k = rw add-zero (sym (take-append-drop k d))

-- ---- the first bad field answers

pub ok_then : (u : Unit {0}) (b : Validity) → (Ok u then b) ≡ b
unfolding ◌then◌
ok_then u b = refl

pub err_then : (e : Refusal) (b : Validity) → (Err e then b) ≡ Err e
unfolding ◌then◌
err_then e b = refl

pub then-valid : (a b : Validity) → a then b ≡ Valid → (a ≡ Valid) × (b ≡ Valid)
unfolding ◌then◌
then-valid (Ok u) b h = (refl, h)
then-valid (Err e) b h = let z : ◌≡◌ {A = ℕ} 0 1 = cc in absurd (omega arith)

pub valid-then : (a b : Validity) → a ≡ Valid → a then b ≡ b
unfolding ◌then◌
valid-then a b h = rw h

pub both-valid : (a b : Validity) → a ≡ Valid → b ≡ Valid → a then b ≡ Valid
unfolding ◌then◌
both-valid a b g h = rw (g, h)

pub then-refused : (a b : Validity) (n : Reason) (p : ℕ) → a ≡ Refused n p → a then b ≡ Refused n p
unfolding ◌then◌
then-refused a b n p h = rw h

pub then-assoc : (a b c : Validity) → (a then b) then c ≡ a then (b then c)
unfolding ◌then◌
then-assoc (Ok u) b c = refl
then-assoc (Err e) b c = refl

pub then-of-valid : (v : Validity) → v then Valid ≡ v
unfolding ◌then◌
then-of-valid (Ok u) = refl
then-of-valid (Err e) = refl

pub unless-valid : (ok : Bool) (number : Reason) (place : ℕ) → unless ok number place ≡ Valid → ok ≡ true
unfolding unless
unless-valid true number place h = refl
unless-valid false number place h = let z : ◌≡◌ {A = ℕ} 0 1 = cc in absurd (omega arith)

pub unless-passes : (ok : Bool) (number : Reason) (place : ℕ) → ok ≡ true → unless ok number place ≡ Valid
unfolding unless
unless-passes ok number place h = rw h

-- a test that a is at most b
pub unless_fits : (a b : ℕ) (number : Reason) (place : ℕ) → unless (leb a b) number place ≡ Valid → a ≤ b
unless_fits a b number place h = leb-true a b (unless-valid (leb a b) number place h)

pub unless_refuses : (ok : Bool) (number : Reason) (place : ℕ) (e : Refusal) → unless ok number place ≡ Err e
    → (ok ≡ false) × (record { reason = number; place = place } ≡ e)
unfolding unless
unless_refuses true number place e h = let z : ◌≡◌ {A = ℕ} 0 1 = cc in absurd (omega arith)
unless_refuses false number place e h = (refl, cc)

pub field-inside : (left base k n : ℕ) (number : Reason) (ok : Bool) → k + n ≤ left
    → field_of left base k n number ok ≡ unless ok number (base + k)
unfolding field_of
field-inside left base k n number ok h = rw (le-leb (k + n) left h)

pub field_cut : (left base k n : ℕ) (number : Reason) (ok : Bool) → left < k + n → field_of left base k n number ok ≡ Refused reason.Cut (base + k)
unfolding field_of
field_cut left base k n number ok h = rw (lt-leb (k + n) left h)

pub field-passes : (left base k n : ℕ) (number : Reason) (ok : Bool) → k + n ≤ left → ok ≡ true → field_of left base k n number ok ≡ Valid
field-passes left base k n number ok h g = field-inside left base k n number ok h ∙ unless-passes ok number (base + k) g

pub field-valid : (left base k n : ℕ) (number : Reason) (ok : Bool) → field_of left base k n number ok ≡ Valid → (k + n ≤ left) × (ok ≡ true)
unfolding field_of
field-valid left base k n number ok h = by (leb (k + n) left) refl h
  where
    by : (t : Bool) → leb (k + n) left ≡ t → cond t (unless ok number (base + k)) (Refused reason.Cut (base + k)) ≡ Valid
        → (k + n ≤ left) × (ok ≡ true)
    by true e g = (leb-true (k + n) left e, unless-valid ok number (base + k) g)
    by false e g = let z : ◌≡◌ {A = ℕ} 0 1 = cc in absurd (omega arith)

-- ---- whether nothing is refused, number and place left out

pub valid_by_test : (v : Validity) → is_valid v ≡ true → v ≡ Valid
unfolding is_valid
valid_by_test (Ok u) h = refl
valid_by_test (Err e) h = let z : ◌≡◌ {A = ℕ} 0 1 = cc in absurd (omega arith)

pub valid-both : (a b : Validity) → is_valid (a then b) ≡ is_valid a && is_valid b
unfolding is_valid ◌then◌
valid-both (Ok u) b = refl
valid-both (Err e) b = refl

pub valid-unless : (ok : Bool) (number : Reason) (place : ℕ) → is_valid (unless ok number place) ≡ ok
unfolding is_valid unless
valid-unless true number place = refl
valid-unless false number place = refl

pub valid-cond : (t : Bool) (a b : Validity) → is_valid (cond t a b) ≡ cond t (is_valid a) (is_valid b)
valid-cond true a b = refl
valid-cond false a b = refl

pub valid-field : (left base k n : ℕ) (number : Reason) (ok : Bool) → is_valid (field_of left base k n number ok) ≡ leb (k + n) left && ok
unfolding field_of is_valid
valid-field left base k n number ok =
    valid-cond (leb (k + n) left) (unless ok number (base + k)) (Refused reason.Cut (base + k))
    ∙ rw (valid-unless ok number (base + k)) (at (leb (k + n) left))
  where
    at : (t : Bool) → cond t ok false ≡ t && ok
    at true = refl
    at false = refl

-- ---- runs of records

pub each-suc : (rule : ℕ → Validity) (n w p : ℕ) → each rule (suc n) w p ≡ rule p then each rule n w (p + w)
unfolding each
each-suc rule n w p = refl

pub each_none : (rule : ℕ → Validity) (w p : ℕ) → Valid ≡ each rule 0 w p
unfolding each
each_none rule w p = refl

pub each-valid : (rule : ℕ → Validity) (n w p : ℕ) → each rule n w p ≡ Valid → (i : ℕ) → i < n → rule (p + i * w) ≡ Valid
unfolding each
each-valid rule zero w p h i g = absurd (omega arith)
each-valid rule (suc n) w p h zero g =
    let e : p + 0 * w ≡ p = omega arith in
    ap rule e ∙ (then-valid (rule p) (each rule n w (p + w)) h).0
each-valid rule (suc n) w p h (suc i) g =
    let e : p + suc i * w ≡ p + w + i * w = omega arith in
    ap rule e ∙ each-valid rule n w (p + w) (then-valid (rule p) (each rule n w (p + w)) h).1 i (omega arith)

pub each-passes : (rule : ℕ → Validity) (n w p : ℕ) → ((i : ℕ) → i < n → rule (p + i * w) ≡ Valid) → each rule n w p ≡ Valid
unfolding each
each-passes rule zero w p h = refl
each-passes rule (suc n) w p h =
    let e : p ≡ p + 0 * w = omega arith in
    both-valid (rule p) (each rule n w (p + w)) (ap rule e ∙ h 0 (omega arith))
    (each-passes rule n w (p + w)
    (λ i g. let f : p + w + i * w ≡ p + suc i * w = omega arith in ap rule f ∙ h (suc i) (omega arith)))

-- the first i records, and then the rest
pub each-split : (rule : ℕ → Validity) (i m w p : ℕ)
    → each rule (i + m) w p ≡ each rule i w p then each rule m w (p + i * w)
unfolding each ◌then◌
each-split rule zero m w p =
    let e : p + 0 * w ≡ p = omega arith in
    rw (zero-add, e)
each-split rule (suc i) m w p =
    let e : p + suc i * w ≡ p + w + i * w = omega arith in
    rw (suc-add, e, each-split rule i m w (p + w))
    (sym (then-assoc (rule p) (each rule i w (p + w)) (each rule m w (p + w + i * w))))

pub each_last : (rule : ℕ → Validity) (n w p : ℕ) → each rule (n + 1) w p ≡ each rule n w p then rule (p + n * w)
unfolding each
each_last rule n w p = each-split rule n 1 w p ∙ rw (then-of-valid (rule (p + n * w)))

pub each-end : (rule : ℕ → Validity) (n i w p : ℕ) (v : Validity) → v ≡ each rule i w p → i ≤ n → n ≤ i → v ≡ each rule n w p
each-end rule n i w p v e g h =
    let f : i ≡ n = omega arith in
    e ∙ rw f

-- an iteration of a loop over n records, at the i-th, which stands at p
pub each_step : (rule : ℕ → Validity) (n i w p : ℕ) → i < n → each rule (n - i) w p ≡ rule p then each rule (n - (i + 1)) w (p + w)
each_step rule n i w p h =
    let e : n - i ≡ suc (n - (i + 1)) = omega arith in
    rw (e, each-suc rule (n - (i + 1)) w p)

-- a loop that returns the first refusal, at the i-th of n records, which stands at p: what is left from there on answers for all, and
-- v is the validity of the record at p
pub each_next : (rule : ℕ → Validity) (n i w p : ℕ) (all v : Validity) → i < n → all ≡ each rule (n - i) w p → v ≡ rule p → v ≡ Valid
    → all ≡ each rule (n - (i + 1)) w (p + w)
each_next rule n i w p all v h e f g =
    e ∙ each_step rule n i w p h ∙ valid-then (rule p) (each rule (n - (i + 1)) w (p + w)) (sym f ∙ g)

pub each-bad : (rule : ℕ → Validity) (n i w p : ℕ) (all v : Validity) (a : Reason) (b : ℕ) → i < n → all ≡ each rule (n - i) w p → v ≡ rule p
    → v ≡ Refused a b → v ≡ all
each-bad rule n i w p all v a b h e f g =
    g ∙ sym (e ∙ each_step rule n i w p h ∙ then-refused (rule p) (each rule (n - (i + 1)) w (p + w)) a b (sym f ∙ g))

pub each-done : (rule : ℕ → Validity) (n i w p : ℕ) (all : Validity) → n ≤ i → all ≡ each rule (n - i) w p → Valid ≡ all
each-done rule n i w p all h e =
    let z : n - i ≡ 0 = omega arith in
    each_none rule w p ∙ sym (e ∙ rw z)

-- an iteration of a loop that asks whether the i-th record, at q, is valid too
pub valid-step : (rule : ℕ → Validity) (i w p q : ℕ) (ok more : Bool) → ok ≡ is_valid (each rule i w p) → q ≡ p + i * w
    → more ≡ is_valid (rule q) → ok && more ≡ is_valid (each rule (i + 1) w p)
valid-step rule i w p q ok more e f g =
    rw (e, g, f) (sym (ap is_valid (each_last rule i w p) ∙ valid-both (each rule i w p) (rule (p + i * w))))

-- and its end
pub valid-end : (rule : ℕ → Validity) (n i w p : ℕ) (ok : Bool) → ok ≡ is_valid (each rule i w p) → i ≤ n → n ≤ i → ok ≡ true
    → each rule n w p ≡ Valid
valid-end rule n i w p ok e g h t =
    sym (each-end rule n i w p (each rule i w p) refl g h) ∙ valid_by_test (each rule i w p) (sym e ∙ t)

-- the first bad record answers
pub each-stop : (rule : ℕ → Validity) (n w p i : ℕ) (a : Reason) (b : ℕ) → i < n → ((j : ℕ) → j < i → rule (p + j * w) ≡ Valid)
    → rule (p + i * w) ≡ Refused a b → each rule n w p ≡ Refused a b
each-stop rule n w p i a b h g e =
    let f : n ≡ i + (n - i) = omega arith in
    ap (λ (m : ℕ). each rule m w p) f
    ∙ each-split rule i (n - i) w p
    ∙ valid-then (each rule i w p) (each rule (n - i) w (p + i * w)) (each-passes rule i w p g)
    ∙ each_step rule n i w (p + i * w) h
    ∙ then-refused (rule (p + i * w)) (each rule (n - (i + 1)) w (p + i * w + w)) a b e

-- a loop over n records that stops at the first refusal, after i that are valid
pub each_more : (rule : ℕ → Validity) (i w p : ℕ) → each rule i w p ≡ Valid → rule (p + i * w) ≡ Valid → each rule (i + 1) w p ≡ Valid
each_more rule i w p g h = each_last rule i w p ∙ both-valid (each rule i w p) (rule (p + i * w)) g h

pub each_refused : (rule : ℕ → Validity) (n i w p : ℕ) (e : Refusal) → i < n → each rule i w p ≡ Valid → rule (p + i * w) ≡ Err e
    → each rule n w p ≡ Err e
each_refused rule n i w p e h g f =
    let d : n ≡ i + (n - i) = omega arith in
    ap (λ (m : ℕ). each rule m w p) d
    ∙ each-split rule i (n - i) w p
    ∙ valid-then (each rule i w p) (each rule (n - i) w (p + i * w)) g
    ∙ each_step rule n i w (p + i * w) h
    ∙ then-refused (rule (p + i * w)) (each rule (n - (i + 1)) w (p + i * w + w)) e.reason e.place f

-- a loop over n records that says whether the first i are valid
pub valid_none : (rule : ℕ → Validity) (w p : ℕ) → true ≡ is_valid (each rule 0 w p)
unfolding each is_valid
valid_none rule w p = refl

pub valid_more : (rule : ℕ → Validity) (i w p : ℕ)
    → is_valid (each rule (i + 1) w p) ≡ is_valid (each rule i w p) && is_valid (rule (p + i * w))
valid_more rule i w p = ap is_valid (each_last rule i w p) ∙ valid-both (each rule i w p) (rule (p + i * w))

pub valid_all : (rule : ℕ → Validity) (n w p : ℕ) (ok : Bool) → ok ≡ is_valid (each rule n w p) → ok ≡ true → each rule n w p ≡ Valid
valid_all rule n w p ok e t = valid_by_test (each rule n w p) (sym e ∙ t)

-- rules that agree at each record
pub each_same : (f g : ℕ → Validity) (n w p : ℕ) → ((i : ℕ) → i < n → f (p + i * w) ≡ g (p + i * w)) → each f n w p ≡ each g n w p
unfolding each
each_same f g zero w p h = refl
each_same f g (suc n) w p h =
    let e : p ≡ p + 0 * w = omega arith in
    let first : f p ≡ g p = ap f e ∙ h 0 (omega arith) ∙ ap g (sym e) in
    let rest : each f n w (p + w) ≡ each g n w (p + w) =
    each_same f g n w (p + w)
    (λ i b. let d : p + w + i * w ≡ p + suc i * w = omega arith in ap f d ∙ h (suc i) (omega arith) ∙ ap g (sym d))
    in
    rw (first, rest)

-- ---- what a writer leaves

pub written-valid : (v : Validity) (out s : List ℕ) → v ≡ Valid → written v out s ≡ over out 0 s
unfolding written
written-valid v out s h = rw h

pub written-refused : (v : Validity) (out s : List ℕ) (n : Reason) (p : ℕ) → v ≡ Refused n p → written v out s ≡ out
unfolding written
written-refused v out s n p h = rw h

pub written_ok : (u : Unit {0}) (out s : List ℕ) → written (Ok u) out s ≡ over out 0 s
unfolding written
written_ok u out s = refl

pub written_err : (e : Refusal) (out s : List ℕ) → written (Err e) out s ≡ out
unfolding written
written_err e out s = refl

pub length-written : (v : Validity) (out s : List ℕ) → length s ≤ length out → length (written v out s) ≡ length out
unfolding written
length-written (Ok u) out s h = length_over out 0 s (omega arith)
length-written (Err e) out s h = refl

-- ---- bytes

pub bytes-nil : AllBytes []
bytes-nil i = omega arith

pub bytes-cons : (b : ℕ) (s : List ℕ) → b < 256 → AllBytes s → AllBytes (b ∷ s)
bytes-cons b s hb hs zero = hb
bytes-cons b s hb hs (suc i) = hs i

pub bytes_take : (n : ℕ) (s : List ℕ) → AllBytes s → AllBytes (take n s)
bytes_take zero s h i = omega arith
bytes_take (suc n) [] h i = omega arith
bytes_take (suc n) (x ∷ s) h zero = h 0
bytes_take (suc n) (x ∷ s) h (suc i) = bytes_take n s (λ j. h (suc j)) i

pub bytes_drop : (n : ℕ) (s : List ℕ) → AllBytes s → AllBytes (drop n s)
bytes_drop n s h i = rw get_or-drop (h (n + i))

pub bytes-part : (s : List ℕ) (k n : ℕ) → AllBytes s → AllBytes (part s k n)
bytes-part s k n h = bytes_take n (drop k s) (bytes_drop k s h)

pub bytes-append : (a b : List ℕ) → AllBytes a → AllBytes b → AllBytes (a ++ b)
bytes-append [] b ha hb i = hb i
bytes-append (x ∷ a) b ha hb zero = ha 0
bytes-append (x ∷ a) b ha hb (suc i) = bytes-append a b (λ j. ha (suc j)) hb i

pub bytes-zeros : (n : ℕ) → AllBytes (zeros n)
unfolding zeros
bytes-zeros zero i = omega arith
bytes-zeros (suc n) zero = omega arith
bytes-zeros (suc n) (suc i) = bytes-zeros n i

pub bytes-over : (d : List ℕ) (k : ℕ) (s : List ℕ) → AllBytes d → AllBytes s → AllBytes (over d k s)
unfolding over
bytes-over d k s hd hs =
    bytes-append (take k d) (s ++ drop (k + length s) d) (bytes_take k d hd)
    (bytes-append s (drop (k + length s) d) hs (bytes_drop (k + length s) d hd))

-- ---- numbers, low byte first

pow-pos-256 : (n : ℕ) → 0 < 256 ^ n
pow-pos-256 n = one-le-pow n 256 (omega arith)

pub num-zero : (s : List ℕ) (k : ℕ) → num s k 0 ≡ 0
unfolding little
num-zero s k = refl

-- past the end as well, where both sides take zeros
pub num-suc : (s : List ℕ) (k n : ℕ) → num s k (suc n) ≡ get_or s k 0 + 256 * num s (suc k) n
unfolding little
num-suc [] k n = rw (drop-nil k, take-nil n)
num-suc (x ∷ s) zero n = refl
num-suc (x ∷ s) (suc k) n = num-suc s k n

pub num-one : (s : List ℕ) (k : ℕ) → num s k 1 ≡ get_or s k 0
num-one s k = omega (arith, num-suc s k 0, num-zero s (suc k))

pub num-add : (s : List ℕ) (k m n : ℕ) → num s k (m + n) ≡ num s k m + 256 ^ m * num s (k + m) n
num-add s k zero n = rw (zero-add, add-zero, num-zero s k, pow-zero) (omega arith)
num-add s k (suc m) n =
    let e : suc k + m ≡ k + suc m = omega arith in
    let f : num s (suc k) (m + n) ≡ num s (suc k) m + 256 ^ m * num s (k + suc m) n = rw e at (num-add s (suc k) m n) in
    rw (suc-add, num-suc s k (m + n), num-suc s k m, pow-succ', f) (omega arith)

pub num-lt : (s : List ℕ) (k n : ℕ) → AllBytes s → num s k n < 256 ^ n
num-lt s k zero h = rw (num-zero s k, pow-zero) (omega arith)
num-lt s k (suc n) h = rw (num-suc s k n, pow-succ') (omega (arith, h k, num-lt s (suc k) n h))

pub num-part : (s : List ℕ) (p w k n : ℕ) → k + n ≤ w → num (part s p w) k n ≡ num s (p + k) n
num-part s p w k n h = ap little (part-part s p w k n h)

pub little-lt : (s : List ℕ) → AllBytes s → little s < 256 ^ length s
unfolding little
little-lt [] h = rw pow-zero (omega arith)
little-lt (b ∷ s) h = rw pow-succ' (omega (arith, h 0, little-lt s (λ i. h (suc i))))

pub length-little_bytes : (n x : ℕ) → length (little_bytes n x) ≡ n
unfolding little_bytes
length-little_bytes zero x = refl
length-little_bytes (suc n) x = ap suc (length-little_bytes n (x / 256))

pub long-little : (n x : ℕ) → Long (little_bytes n x) n
long-little n x = record { long = length-little_bytes n x }

pub bytes-little_bytes : (n x : ℕ) → AllBytes (little_bytes n x)
unfolding little_bytes
bytes-little_bytes zero x i = omega arith
bytes-little_bytes (suc n) x zero = omega arith
bytes-little_bytes (suc n) x (suc i) = bytes-little_bytes n (x / 256) i

pub little-little_bytes : (n x : ℕ) → x < 256 ^ n → little (little_bytes n x) ≡ x
unfolding little little_bytes
little-little_bytes zero x h = let g : x < 1 = rw pow-zero at h in omega arith
little-little_bytes (suc n) x h =
    let g : x < 256 * 256 ^ n = rw pow-succ' at h in
    let f : x / 256 < 256 ^ n = omega arith in
    omega (arith, little-little_bytes n (x / 256) f)

pub little_bytes-little : (s : List ℕ) → AllBytes s → little_bytes (length s) (little s) ≡ s
unfolding little little_bytes
little_bytes-little [] h = refl
little_bytes-little (b ∷ s) h =
    let e : (b + 256 * little s) % 256 ≡ b = omega (arith, h 0) in
    let f : (b + 256 * little s) / 256 ≡ little s = omega (arith, h 0) in
    rw (e, f, little_bytes-little s (λ i. h (suc i)))

pub little_bytes-num : (s : List ℕ) (k n : ℕ) → AllBytes s → k + n ≤ length s → little_bytes n (num s k n) ≡ part s k n
little_bytes-num s k n h g =
    rw (length_part s k n g) at (little_bytes-little (part s k n) (bytes-part s k n h))

-- a field that was written is read again
pub num-at : (a c : List ℕ) (k n x : ℕ) → length a ≡ k → x < 256 ^ n → num (a ++ (little_bytes n x ++ c)) k n ≡ x
num-at a c k n x h g = ap little (part_at a (little_bytes n x) c k n h (length-little_bytes n x)) ∙ little-little_bytes n x g

pub num-front : (c : List ℕ) (n x : ℕ) → x < 256 ^ n → num (little_bytes n x ++ c) 0 n ≡ x
num-front c n x g = num-at [] c 0 n x refl g

pub little_bytes-add : (m n x : ℕ) → little_bytes (m + n) x ≡ little_bytes m x ++ little_bytes n (x / 256 ^ m)
unfolding little_bytes
little_bytes-add zero n x = rw (zero-add, pow-zero, div-one)
little_bytes-add (suc m) n x =
    rw (suc-add, pow-succ', ← div-div-eq-div-mul x 256 (256 ^ m), little_bytes-add m n (x / 256))

-- the high bytes do not count
pub little_bytes-mod : (n x : ℕ) → little_bytes n (x % 256 ^ n) ≡ little_bytes n x
unfolding little_bytes
little_bytes-mod zero x = refl
little_bytes-mod (suc n) x =
    let e : x % 256 ^ suc n ≡ (x / 256 % 256 ^ n) * 256 + x % 256 = rw pow-suc (mod-mul x (pow-pos-256 n) (omega arith)) in
    let f : ((x / 256 % 256 ^ n) * 256 + x % 256) % 256 ≡ x % 256 = omega arith in
    let g : ((x / 256 % 256 ^ n) * 256 + x % 256) / 256 ≡ x / 256 % 256 ^ n = omega arith in
    rw (e, f, g, little_bytes-mod n (x / 256))

-- ---- numbers, high byte first

pub length-big_bytes : (n x : ℕ) → length (big_bytes n x) ≡ n
unfolding big_bytes
length-big_bytes zero x = refl
length-big_bytes (suc n) x = rw (length-append, length-big_bytes n (x / 256), add-one)

pub long-big : (n x : ℕ) → Long (big_bytes n x) n
long-big n x = record { long = length-big_bytes n x }

pub bytes-big_bytes : (n x : ℕ) → AllBytes (big_bytes n x)
unfolding big_bytes
bytes-big_bytes zero x i = omega arith
bytes-big_bytes (suc n) x i =
    bytes-append (big_bytes n (x / 256)) (x % 256 ∷ []) (bytes-big_bytes n (x / 256)) (bytes-cons (x % 256) [] (omega arith) bytes-nil) i

pub big_from-append : (h : ℕ) (a b : List ℕ) → big_from h (a ++ b) ≡ big_from (big_from h a) b
unfolding big_from
big_from-append h [] b = refl
big_from-append h (x ∷ a) b = big_from-append (h * 256 + x) a b

pub big_from-high : (h : ℕ) (s : List ℕ) → big_from h s ≡ h * 256 ^ length s + big s
unfolding big_from
big_from-high h [] = rw pow-zero (omega arith)
big_from-high h (b ∷ s) =
    rw (big_from-high (h * 256 + b) s, big_from-high (0 * 256 + b) s, pow-succ') (omega arith)

pub big_lt : (s : List ℕ) → AllBytes s → big s < 256 ^ length s
unfolding big_from
big_lt [] h = rw pow-zero (omega arith)
big_lt (b ∷ s) h =
    let p = 256 ^ length s in
    let g : b * p ≤ 255 * p = mul-le-mul_right p (omega (arith, h 0)) in
    rw (big_from-high (0 * 256 + b) s, pow-succ') (omega (arith, big_lt s (λ i. h (suc i))))

pub big-big_bytes : (n x : ℕ) → x < 256 ^ n → big (big_bytes n x) ≡ x
unfolding big_from big_bytes
big-big_bytes zero x h = let g : x < 1 = rw pow-zero at h in omega arith
big-big_bytes (suc n) x h =
    let g : x < 256 * 256 ^ n = rw pow-succ' at h in
    let f : x / 256 < 256 ^ n = omega arith in
    rw (big_from-append 0 (big_bytes n (x / 256)) (x % 256 ∷ []), big-big_bytes n (x / 256) f) (omega arith)

pub big-at : (a c : List ℕ) (k n x : ℕ) → length a ≡ k → x < 256 ^ n → big (part (a ++ (big_bytes n x ++ c)) k n) ≡ x
big-at a c k n x h g = ap (λ (l : List ℕ). big l) (part_at a (big_bytes n x) c k n h (length-big_bytes n x)) ∙ big-big_bytes n x g

pub big-front : (c : List ℕ) (n x : ℕ) → x < 256 ^ n → big (part (big_bytes n x ++ c) 0 n) ≡ x
big-front c n x g = big-at [] c 0 n x refl g

pub big_bytes-add : (m n x : ℕ) → big_bytes (m + n) x ≡ big_bytes m (x / 256 ^ n) ++ big_bytes n x
unfolding big_bytes
big_bytes-add m zero x = rw (add-zero, pow-zero, div-one) (sym (append-nil (big_bytes m x)))
big_bytes-add m (suc n) x =
    rw (add-suc, pow-succ', ← div-div-eq-div-mul x 256 (256 ^ n), big_bytes-add m n (x / 256))
    (append_assoc (big_bytes m (x / 256 / 256 ^ n)) (big_bytes n (x / 256)) (x % 256 ∷ []))

pub big_bytes-mod : (n x : ℕ) → big_bytes n (x % 256 ^ n) ≡ big_bytes n x
unfolding big_bytes
big_bytes-mod zero x = refl
big_bytes-mod (suc n) x =
    let e : x % 256 ^ suc n ≡ (x / 256 % 256 ^ n) * 256 + x % 256 = rw pow-suc (mod-mul x (pow-pos-256 n) (omega arith)) in
    let f : ((x / 256 % 256 ^ n) * 256 + x % 256) % 256 ≡ x % 256 = omega arith in
    let g : ((x / 256 % 256 ^ n) * 256 + x % 256) / 256 ≡ x / 256 % 256 ^ n = omega arith in
    rw (e, f, g, big_bytes-mod n (x / 256))

-- the high byte in front
pub big_bytes-suc : (n x : ℕ) → big_bytes (suc n) x ≡ x / 256 ^ n % 256 ∷ big_bytes n x
unfolding big_bytes
big_bytes-suc n x = rw one-add at (big_bytes-add 1 n x)

-- whatever stands above the bytes
big_bytes-big_from : (h : ℕ) (s : List ℕ) → AllBytes s → big_bytes (length s) (big_from h s) ≡ s
unfolding big_from big_bytes
big_bytes-big_from h [] g = refl
big_bytes-big_from h (b ∷ s) g =
    let x = big_from (h * 256 + b) s in
    let e : x / 256 ^ length s ≡ h * 256 + b =
    rw (big_from-high (h * 256 + b) s) (digits_div (h * 256 + b) (big_lt s (λ i. g (suc i))))
    in
    let f : (h * 256 + b) % 256 ≡ b = omega (arith, g 0) in
    big_bytes-suc (length s) x ∙ rw (e, f, big_bytes-big_from (h * 256 + b) s (λ i. g (suc i)))

pub big_bytes-big : (s : List ℕ) → AllBytes s → big_bytes (length s) (big s) ≡ s
big_bytes-big s h = big_bytes-big_from 0 s h

-- ---- numbers read out of bytes

pub num-two : (s : List ℕ) (k a b : ℕ) → a ≡ get_or s k 0 → b ≡ get_or s (k + 1) 0 → a + 256 * b ≡ num s k 2
num-two s k a b e f = rw (e, f, num-suc s k 1, add-one, num-one s (suc k))

-- s written over the front of zeros
pub over-fresh : (s : List ℕ) (m n : ℕ) → length s ≡ m → over (zeros (m + n)) 0 s ≡ s ++ zeros n
over-fresh s m n e = over_zero (zeros (m + n)) s ∙ rw (e, drop-zeros m n)

-- ---- what the library's methods say, in these words

-- after a method of the n bytes at k: t is what they hold now
pub written_part : (d t s : List ℕ) (k n : ℕ) → t ≡ s → n ≡ length s → put_mid k n d t ≡ over d k s
unfolding over
written_part d t s k n e f = rw (e, f, drop-drop (length s) k d)

-- after `fill(0)`
pub cleared_part : (d t : List ℕ) (k n w : ℕ) → t ≡ replicate (length (part d k w)) 0 → w ≡ n → k + n ≤ length d → put_mid k w d t ≡ over d k (zeros n)
unfolding zeros
cleared_part d t k n w e f h =
    let l : length (part d k w) ≡ n = rw f (length_part d k n h) in
    written_part d t (zeros n) k w (rw l at e) (f ∙ sym (length-zeros n))

-- what a copy of the first i bytes of s leaves
over-paste : (d : List ℕ) (k : ℕ) (s : List ℕ) (i : ℕ) → i ≤ length s → over d k (take i s) ≡ paste d k s i
unfolding over
over-paste d k s i h = rw (length-take-le i s h) (sym (append_assoc (take k d) (take i s) (drop (k + i) d)))

-- the n bytes at from copied to a place of the same buffer
pub moved_part : (d : List ℕ) (from to n : ℕ) → from + n ≤ length d → copy_within d from (from + n) to ≡ over d to (part d from n)
moved_part d from to n h =
    let e : from + n - from ≡ n = omega arith in
    rw e (sym (over-paste d to (drop from d) n (simp length-drop (omega arith))))

-- n bytes from the byte i on
low-first : (i n x : ℕ) → bytes_low_first i n x ≡ little_bytes n (x / 256 ^ i)
unfolding little_bytes
low-first i zero x = refl
low-first zero (suc n) x = rw (div-one x, low-first 1 n x)
low-first (suc i) (suc n) x =
    rw (low-first (suc (suc i)) n x, div-div-eq-div-mul x (256 ^ suc i) 256, ← pow-suc 256 (suc i))

pub to_le-little : (w : Width) (x : ℕ) → to_le_bytes w x ≡ little_bytes (byte_len w) x
to_le-little w x = low-first 0 (byte_len w) x ∙ rw (pow-zero, div-one)

-- the low n bytes of x, as `to_be_bytes` ends
pub to_be-big : (n x : ℕ) → bytes_high_first n x ≡ big_bytes n x
unfolding big_bytes
to_be-big zero x = refl
to_be-big (suc zero) x = refl
to_be-big (suc (suc n)) x = rw (to_be-big (suc n) x) (sym (big_bytes-suc (suc n) x))

-- `from_le_bytes` of m + 1 bytes, those of s at k
pub from_le-num : (a s : List ℕ) (k m : ℕ) → ((i : ℕ) → i < suc m → get_or a i 0 ≡ get_or s (k + i) 0)
    → sum_through (λ i. byte_worth i (slice_index a i)) m ≡ num s k (suc m)
from_le-num a s k zero h = h 0 (omega arith) ∙ rw (add-zero, num-one)
from_le-num a s k (suc m) h =
    let low = from_le-num a s k m (λ i l. h i (omega arith)) in
    let high = h (suc m) (omega arith) in
    rw (low, high, ← add-one (suc m), num-add s k (suc m) 1, num-one s (k + suc m)) (omega arith)

worth : (i b : ℕ) → byte_worth i b ≡ b * 256 ^ i
worth zero b = rw pow-zero (omega arith)
worth (suc i) b = refl

-- the first m + 1 bytes of a, with c bytes below them
high-worth : (a : List ℕ) (m c x : ℕ) → x ≡ c + m → suc m ≤ length a
    → sum_through (λ i. byte_worth (x - i) (slice_index a i)) m ≡ big (take (suc m) a) * 256 ^ c
unfolding big_from
high-worth a zero c x e h = rw (e, sub-zero, add-zero, worth, take-suc a 0 0 h) (omega arith)
high-worth a (suc m) c x e h =
    let f : x - suc m ≡ c = omega arith in
    let high = high-worth a m (suc c) x (omega arith) (omega arith) in
    rw (f, worth c (slice_index a (suc m)), high, take-suc a (suc m) 0 h, big_from-append, pow-succ') (omega arith)

-- `from_be_bytes` of m + 1 bytes
pub from_be-big : (a : List ℕ) (m : ℕ) → length a ≡ suc m → sum_through (λ i. byte_worth (m - i) (slice_index a i)) m ≡ big a
from_be-big a m e = high-worth a m 0 m (sym (zero-add m)) (omega arith) ∙ rw (pow-zero, take_all (suc m) a (omega arith)) (omega arith)
