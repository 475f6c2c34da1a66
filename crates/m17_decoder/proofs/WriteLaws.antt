-- The text loop over a buffer: its beginnings, one byte more, and its end; the answer to a number with a text.
use Prim.Native.Nat.{ℕ, suc, ◌+◌, ◌-◌, ◌%◌, ◌/◌, ◌≤◌, ◌<◌}
use mathlib.Core.Path.{◌≡◌, refl, sym, ◌∙◌}
use mathlib.Core.Bool.{true}
use mathlib.Core.List.{List, [], ◌∷◌, ◌++◌, append_assoc, append-nil}
use mathlib.Core.Logic.{⊎_elim}
use native.Mathlib.Omega.{arith}
use native.Mathlib.Nat.{eq-zero-or-pos}
use native.Mathlib.Numerals.{add-one}
use lib.ListN.{length, take, drop, set, replicate, length-set, take-append-drop}
use lib.Seq.{take-suc-set, drop-set-lt}
use borrow.Author.Tests.{le-ltb, ne_eqb}
use Rattle.m17.specs.declared.Edition.{Edition}
use Rattle.m17.specs.declared.Decoded.TheVariants as decoded
use Rattle.m17.specs.Address.{hash_sign, first_hash, last_plain, char_of, text_up_to, text_for, is_callsign, decoding, decoded_by, decoded_into}
use Rattle.m17.proofs.OneToOne.{text-plain, text-hash}
use Rattle.m17_groups.specs.Places.{padded, while_rest}
use Rattle.m17_groups.proofs.Laws.{padded-step, count-step}
use Rattle.m17_decoder.specs.Begin.{Begun}
use Rattle.std.specs.Prelude.{Ok}

-- no hash sign: all is still to write
pub begun-plain : (n : ℕ) (out : List ℕ) → 9 ≤ length out → n ≤ last_plain → Begun n out out 0 0 n
begun-plain n out room p =
    record {
      room = room;
      same = refl;
      few = omega arith;
      inside = omega arith;
      count = rw (text-plain n p) (omega arith);
      text = rw (text-plain n p) (unfold padded in refl);
      behind = refl;
    }

-- the hash sign, and the text behind it still to write
pub begun-hash : (n : ℕ) (out : List ℕ) → 9 ≤ length out → last_plain < n → Begun n out (set out 0 hash_sign) 1 1 (n - first_hash)
begun-hash n out room p =
    let k : first_hash + (n - first_hash) ≡ n = omega arith in
    let t : text_for n ≡ hash_sign ∷ text_up_to 8 (n - first_hash) = rw k at (text-hash (n - first_hash)) in
    let m : 9 - suc (length (text_up_to 8 (n - first_hash))) ≡ 8 - length (text_up_to 8 (n - first_hash)) = omega arith in
    let h : 0 < length out = omega arith in
    let j : 0 < 9 = omega arith in
    record {
      room = room;
      same = length-set out 0 hash_sign;
      few = omega arith;
      inside = omega arith;
      count = rw t (omega arith);
      text = rw (t, m, take-suc-set out 0 hash_sign h) (unfold padded in refl);
      behind = drop-set-lt 9 out 0 hash_sign j;
    }

-- behind the ninth byte a buffer is as lent, so that it may as well be the one lent
pub begun-again : (n : ℕ) (lent out : List ℕ) (i len rest : ℕ) → Begun n lent out i len rest → Begun n out out i len rest
begun-again n lent out i len rest b =
    let r : 9 ≤ length lent = b.room in
    let s : length out ≡ length lent = b.same in
    record { room = omega arith; same = refl; few = b.few; inside = b.inside; count = b.count; text = b.text; behind = refl }

pub begun-step : (n : ℕ) (lent out : List ℕ) (i len rest : ℕ) → Begun n lent out i len rest → i < 9
    → Begun n lent (set out i (while_rest rest (char_of (rest % 40)))) (i + 1) (len + while_rest rest 1) (rest / 40)
begun-step n lent out i len rest b low =
    let k : 9 - i ≡ suc (9 - (i + 1)) = omega arith in
    let r : 9 ≤ length lent = b.room in
    let s : length out ≡ length lent = b.same in
    let f : len ≤ i = b.few in
    let h : i < length out = omega arith in
    let c : length (text_up_to (9 - i) rest) ≡ while_rest rest 1 + length (text_up_to (9 - (i + 1)) (rest / 40)) = rw k (count-step (9 - (i + 1)) rest) in
    let q : padded (9 - i) rest ≡ while_rest rest (char_of (rest % 40)) ∷ padded (9 - (i + 1)) (rest / 40) = rw k (padded-step (9 - (i + 1)) rest) in
    let o : while_rest rest 1 ≤ 1 = at_most rest in
    let a = b.count in
    record {
      room = r;
      same = length-set out i (while_rest rest (char_of (rest % 40))) ∙ s;
      few = omega arith;
      inside = omega arith;
      count = omega arith;
      text = rw (b.text, q, add-one, take-suc-set out i (while_rest rest (char_of (rest % 40))) h, append_assoc);
      behind = drop-set-lt 9 out i (while_rest rest (char_of (rest % 40))) low ∙ b.behind;
    }
  where
    at_most : (r : ℕ) → while_rest r 1 ≤ 1
    at_most r = ⊎_elim (λ e. rw e (omega arith)) (λ p. rw (ne_eqb r 0 (omega arith)) (omega arith)) (eq-zero-or-pos r)

pub begun-done : (n : ℕ) (lent out : List ℕ) (i len rest : ℕ) → Begun n lent out i len rest → 9 ≤ i
    → (len ≡ length (text_for n)) × (out ≡ text_for n ++ (replicate (9 - length (text_for n)) 0 ++ drop 9 lent))
begun-done n lent out i len rest b done =
    let f : i ≤ 9 = b.inside in
    let e : i ≡ 9 = omega arith in
    let t : text_for n ++ replicate (9 - length (text_for n)) 0 ≡ take 9 out ++ [] = rw e at b.text ∙ (unfold padded text_up_to in refl) in
    let c : length (text_for n) ≡ len + 0 = rw e at b.count ∙ (unfold text_up_to in refl) in
    let z : take 9 out ++ [] ≡ take 9 out = append-nil (take 9 out) in
    (omega arith, sym (take-append-drop 9 out) ∙ rw (b.behind, ← z, ← t) (append_assoc (text_for n) (replicate (9 - length (text_for n)) 0) (drop 9 lent)))

pub decoding-written : (e : Edition) (lent out : List ℕ) (n len : ℕ) → 9 ≤ length lent → is_callsign e n ≡ true
    → (len ≡ length (text_for n)) × (out ≡ text_for n ++ (replicate (9 - length (text_for n)) 0 ++ drop 9 lent))
    → (Ok (decoded.Text len) ≡ decoding e (length lent) n) × (out ≡ decoded_into e lent n)
unfolding decoding decoded_into decoded_by
decoding-written e lent out n len room t w = rw (w.0, w.1, le-ltb (length lent) 9 room, t) (refl, refl)
