-- Callsigns and their numbers map one to one, by either edition: the text of a text's number is the text, and the number of a number's text is the number.
-- All stated over specs/Address.antt: `encoding` is what `encode` answers, and `text_for` what `decode` writes.
use Prim.Native.Nat.{ℕ, ◌+◌, ◌-◌, ◌*◌, ◌^◌, ◌≤◌, ◌<◌}
use mathlib.Core.Path.{◌≡◌, refl, sym, ◌∙◌, ap}
use mathlib.Core.Bool.{Bool, true, false, not, cond, ◌&&◌}
use mathlib.Core.List.{List, ◌∷◌, ◌++◌}
use mathlib.Core.Logic.{⊎_elim}
use native.Mathlib.Omega.{arith}
use lib.ListN.{length, take, drop, replicate}
use lib.Seq.{take-append_seam}
use lib.Dec.{leb, ltb, eqb}
use borrow.Author.Tests.{le-leb, lt-leb, leb-true, ltb-false}
use Rattle.m17.specs.declared.Edition.{Edition}
use Rattle.m17.specs.declared.Edition.TheVariants.{Older, Newer}
use Rattle.m17.specs.declared.Decoded.{Decoded}
use Rattle.m17.specs.declared.Decoded.TheVariants.{Text}
use Rattle.m17.specs.declared.Decoded.TheVariants as decoded
use Rattle.m17.specs.Address.{broadcast, decoding, decoded_by, decoded_into, within, address_of, first_foreign, ends_in_space, hash_sign, first_hash, last_hash, last_plain, last_of, hash_signs, foreign_place, number_of, encoding, is_callsign, text_up_to, text_for}
use Rattle.m17.proofs.Laws.{split, and-true, foreign-le, within_in, address_below, address-pos, address-of-text, text-of-address, native-text, text-length, text-some, ends-text, ends-tail, ends-cons, encoding-solid, callsign-bounds, last-ge, HashText, signs-or-none, native-signs}
use Rattle.std.specs.Prelude.{Ok, Result}
use Rattle.format.specs.declared.refusals.Reason.TheVariants as reason
use Rattle.format.specs.declared.refusals.Refusal.{Refusal}
use Rattle.fields.specs.Rule.{Refused}
use Rattle.format.specs.declared.refusals.Reason.{Reason}

-- ---- a number's text, by whether it is a hash address

pub text-plain : (n : ℕ) → n ≤ last_plain → text_for n ≡ text_up_to 9 n
unfolding text_for
text-plain n h = rw (le-leb n last_plain h)

pub text-hash : (n : ℕ) → text_for (first_hash + n) ≡ hash_sign ∷ text_up_to 8 n
unfolding text_for
text-hash n =
    let h : last_plain < first_hash + n = omega arith in
    let k : first_hash + n - first_hash ≡ n = omega arith in
    rw (lt-leb (first_hash + n) last_plain h, k)

-- ---- what an accepted text is

record EncodedText (e : Edition) (s : List ℕ) (n : ℕ) : Type 0 where
  some : 0 < length s
  few : length s ≤ 9
  native : length s ≤ foreign_place e s
  solid : ends_in_space s ≡ false
  its : number_of e s ≡ n

-- past a refusal that was not given
past : (b : Bool) (a : Reason) (p : ℕ) (y : Result ℕ Refusal) (n : ℕ) → cond b (Refused a p) y ≡ Ok n → (b ≡ false) × (y ≡ Ok n)
past true a p y n e = let z : ◌≡◌ {A = ℕ} 0 1 = cc in absurd (omega arith)
past false a p y n e = (refl, e)

not-false : (b : Bool) → not b ≡ false → b ≡ true
not-false true e = refl
not-false false e = sym e

encoded-text : (e : Edition) (s : List ℕ) (n : ℕ) → encoding e s ≡ Ok n → EncodedText e s n
unfolding encoding within
encoded-text e s n g =
    let a = past (not (leb 1 (length s) && leb (length s) 9)) reason.CallsignLength 0 _ n g in
    let b = past (ltb (foreign_place e s) (length s)) reason.CallsignForeign (foreign_place e s) _ n a.1 in
    let d = past (ends_in_space s) reason.CallsignSpace 0 _ n b.1 in
    let l = and-true (leb 1 (length s)) (leb (length s) 9) (not-false _ a.0) in
    let i : ◌≡◌ {A = Result ℕ Refusal} (Ok (number_of e s)) (Ok n) = d.1 in
    record {
      some = leb-true 1 (length s) l.0;
      few = leb-true (length s) 9 l.1;
      native = ltb-false (foreign_place e s) (length s) b.0;
      solid = d.0;
      its = cc;
    }

-- one without a hash sign: its number is the sum of its digits
record PlainText (s : List ℕ) (n : ℕ) : Type 0 where
  native : first_foreign s ≡ length s
  its : address_of s ≡ n

plain-text : (e : Edition) (s : List ℕ) (n : ℕ) → EncodedText e s n → hash_signs e s ≡ 0 → PlainText s n
unfolding foreign_place number_of
plain-text e s n a z =
    let f : length s ≤ 0 + first_foreign s = rw z at a.native in
    let i : 0 * first_hash + address_of s ≡ n = rw z at a.its in
    record { native = omega (arith, foreign-le s); its = omega arith }

-- one with a hash sign: its number is 40^9 and the sum of the digits behind it
record HashedText (t : List ℕ) (n : ℕ) : Type 0 where
  few : length t ≤ 8
  native : first_foreign t ≡ length t
  solid : ends_in_space t ≡ false
  its : first_hash + address_of t ≡ n

hashed-text : (e : Edition) (s : List ℕ) (n : ℕ) → EncodedText e s n → (h : HashText e s) → HashedText h.rest n
unfolding foreign_place number_of
hashed-text e s n a h =
    let few : length (hash_sign ∷ h.rest) ≤ 9 = rw h.begins at a.few in
    let f : length (hash_sign ∷ h.rest) ≤ 1 + first_foreign h.rest = rw (h.one, h.begins) at a.native in
    let i : 1 * first_hash + address_of h.rest ≡ n = rw (h.one, h.begins) at a.its in
    record {
      few = omega arith;
      native = omega (arith, foreign-le h.rest);
      solid = ends-tail hash_sign h.rest (rw h.begins at a.solid);
      its = omega arith;
    }

-- ---- the text of a text's number is the text

plain-returns : (s : List ℕ) (n : ℕ) → length s ≤ 9 → ends_in_space s ≡ false → PlainText s n → text_for n ≡ s
plain-returns s n few solid p =
    let h : address_of s < 40 ^ 9 = address_below s 9 few p.native in
    rw (← p.its) (text-plain (address_of s) (omega arith) ∙ text-of-address 9 s few p.native solid)

hashed-returns : (t : List ℕ) (n : ℕ) → HashedText t n → text_for n ≡ hash_sign ∷ t
hashed-returns t n p =
    rw (← p.its) (text-hash (address_of t) ∙ ap (λ r. hash_sign ∷ r) (text-of-address 8 t p.few p.native p.solid))

pub text-returns : (e : Edition) (s : List ℕ) (n : ℕ) → encoding e s ≡ Ok n → text_for n ≡ s
text-returns e s n g =
    let a : EncodedText e s n = encoded-text e s n g in
    ⊎_elim (λ z. plain-returns s n a.few a.solid (plain-text e s n a z))
    (λ h. hashed-returns h.rest n (hashed-text e s n a h) ∙ sym h.begins)
    (signs-or-none e s)

-- ---- and its number is a callsign's

pub number-is-callsign : (e : Edition) (s : List ℕ) (n : ℕ) → encoding e s ≡ Ok n → is_callsign e n ≡ true
unfolding is_callsign
number-is-callsign e s n g =
    let a : EncodedText e s n = encoded-text e s n g in
    ⊎_elim
    (λ z.
    let p : PlainText s n = plain-text e s n a z in
    let l : 0 < address_of s = address-pos s a.some p.native a.solid in
    let h : address_of s < 40 ^ 9 = address_below s 9 a.few p.native in
    within_in 1 (last_of e) n (omega (arith, p.its)) (omega (arith, p.its, last-ge e)))
    (λ k.
    let p : HashedText k.rest n = hashed-text e s n a k in
    let h : address_of k.rest < 40 ^ 8 = address_below k.rest 8 p.few p.native in
    rw k.newer (within_in 1 last_hash n (omega (arith, p.its)) (omega (arith, p.its))))
    (signs-or-none e s)

-- ---- the number of a callsign number's text is the number

plain-encodes : (e : Edition) (n : ℕ) → 0 < n → n < 40 ^ 9 → encoding e (text_up_to 9 n) ≡ Ok n
unfolding foreign_place number_of
plain-encodes e n p h =
    let f : first_foreign (text_up_to 9 n) ≡ length (text_up_to 9 n) = native-text 9 n in
    let z : hash_signs e (text_up_to 9 n) ≡ 0 = native-signs e (text_up_to 9 n) f in
    encoding-solid e (text_up_to 9 n) (text-some 8 n p) (text-length 9 n) (rw z (omega arith)) (ends-text 9 n h)
    ∙ ap Ok (rw z (omega (arith, address-of-text 9 n h)))

hash-encodes : (n : ℕ) → n < 40 ^ 8 → encoding Newer (hash_sign ∷ text_up_to 8 n) ≡ Ok (first_hash + n)
unfolding foreign_place number_of hash_signs
hash-encodes n h =
    let t : List ℕ = text_up_to 8 n in
    let f : first_foreign (text_up_to 8 n) ≡ length (text_up_to 8 n) = native-text 8 n in
    let l : length (text_up_to 8 n) ≤ 8 = text-length 8 n in
    encoding-solid Newer (hash_sign ∷ text_up_to 8 n) (omega arith) (omega arith) (omega arith)
    (ends-cons hash_sign (text_up_to 8 n) (λ z. refl) (ends-text 8 n h))
    ∙ ap Ok (omega (arith, address-of-text 8 n h))

pub number-returns : (e : Edition) (n : ℕ) → is_callsign e n ≡ true → encoding e (text_for n) ≡ Ok n
number-returns e n c =
    let r : (0 < n) × (n ≤ last_of e) = callsign-bounds e n c in
    ⊎_elim
    (λ h. rw (text-plain n h) (plain-encodes e n r.0 (omega arith)))
    (λ h. by e r.1 h)
    (split n last_plain)
  where
    by : (d : Edition) → n ≤ last_of d → last_plain < n → encoding d (text_for n) ≡ Ok n
    by Older l h = absurd (omega arith)
    by Newer l h =
        let k : first_hash + (n - first_hash) ≡ n = omega arith in
        let t : text_for n ≡ hash_sign ∷ text_up_to 8 (n - first_hash) = rw k at (text-hash (n - first_hash)) in
        rw t (hash-encodes (n - first_hash) (omega arith) ∙ ap Ok k)

-- ---- two texts with one number are one text, whatever the editions

pub one-to-one : (d e : Edition) (s t : List ℕ) (n : ℕ) → encoding d s ≡ Ok n → encoding e t ≡ Ok n → s ≡ t
one-to-one d e s t n g f = sym (text-returns d s n g) ∙ text-returns e t n f

-- ---- what is written into a buffer for a number is a text of that number

written-text : (out : List ℕ) (n : ℕ) → take (length (text_for n)) (decoded_by (Ok (Text (length (text_for n)))) out n) ≡ text_for n
unfolding decoded_by
written-text out n = take-append_seam (text_for n) (replicate (9 - length (text_for n)) 0 ++ drop 9 out)

pub written-returns : (e : Edition) (out : List ℕ) (n len : ℕ) → decoding e (length out) n ≡ Ok (Text len)
    → encoding e (take len (decoded_into e out n)) ≡ Ok n
unfolding decoded_into decoding
written-returns e out n len g = by (ltb (length out) 9) (is_callsign e n) (eqb n broadcast) refl g
  where
    text : (l : ℕ) → is_callsign e n ≡ true → ◌≡◌ {A = (Result Decoded Refusal)} (Ok (Text (length (text_for n)))) (Ok (Text l)) → encoding e (take l (decoded_by (Ok (Text (length (text_for n)))) out n)) ≡ Ok n
    text l c h =
        let k : length (text_for n) ≡ l = cc in
        rw (← k, written-text out n) (number-returns e n c)

    by : (short c b : Bool) → is_callsign e n ≡ c
        → cond short (Refused reason.CallsignBuffer 0) (cond c (Ok (Text (length (text_for n)))) (cond b (Ok decoded.Broadcast) (Refused reason.AddressNumber 0))) ≡ Ok (Text len)
        → encoding e (take len (decoded_by (cond short (Refused reason.CallsignBuffer 0) (cond c (Ok (Text (length (text_for n)))) (cond b (Ok decoded.Broadcast) (Refused reason.AddressNumber 0)))) out n)) ≡ Ok n
    by true c b z h = let x : ◌≡◌ {A = ℕ} 0 1 = cc in absurd (omega arith)
    by false true b z h = text len z h
    by false false true z h = let x : ◌≡◌ {A = ℕ} 0 1 = cc in absurd (omega arith)
    by false false false z h = let x : ◌≡◌ {A = ℕ} 0 1 = cc in absurd (omega arith)
