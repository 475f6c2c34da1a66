-- The two editions beside each other (document 02, [10]): the older answers as document 01 does, and what is good under both is the same under both.
use Prim.Native.Nat.{ℕ, ◌≤◌, ◌<◌}
use mathlib.Core.Path.{◌≡◌, refl, sym, ◌∙◌}
use mathlib.Core.Bool.{Bool, true, false, ◌||◌, cond, false≢true}
use mathlib.Core.List.{List}
use native.Mathlib.Omega.{arith}
use native.Mathlib.Nat.{zero-add, zero-mul}
use lib.ListN.{length}
use lib.Dec.{ltb, eqb}
use borrow.Author.Tests.{eqb-true}
use Rattle.m17.specs.declared.Edition.{Edition}
use Rattle.m17.specs.declared.Edition.TheVariants.{Older, Newer}
use Rattle.m17.specs.declared.Address.{Address}
use Rattle.m17.specs.declared.Address.TheVariants.{Callsign}
use Rattle.m17.specs.declared.Address.TheVariants as address
use Rattle.m17.specs.declared.Decoded.TheVariants.{Text, Broadcast}
use Rattle.m17.specs.Address.{broadcast, last_plain, last_of, hash_signs, foreign_place, number_of, encoding, is_callsign, address_ok, address_valid, text_up_to, text_for, decoding, decoded_by, decoded_into}
use Rattle.m17.specs.Before.{encoding_before, is_callsign_before, address_ok_before, address_valid_before, decoding_before, decoded_by_before, decoded_into_before}
use Rattle.m17.proofs.Laws.{within_in, callsign-bounds, last-ge, broadcast-no-callsign}
use Rattle.m17.proofs.OneToOne.{text-plain, text-returns, number-is-callsign, number-returns}
use Rattle.std.specs.Prelude.{Ok, Result}
use Rattle.format.specs.declared.refusals.Reason.TheVariants as reason
use Rattle.format.specs.declared.refusals.Refusal.{Refusal}
use Rattle.fields.specs.Rule.{Refused}

number-injective : (n m : ℕ) → ◌≡◌ {A = (Result ℕ Refusal)} (Ok n) (Ok m) → n ≡ m
number-injective n m e = cc

-- ---- the older answers as before

pub older-encodes : (s : List ℕ) → encoding Older s ≡ encoding_before s
unfolding encoding encoding_before foreign_place number_of hash_signs
older-encodes s = simp (zero-add, zero-mul)

pub older-callsign : (n : ℕ) → is_callsign Older n ≡ is_callsign_before n
unfolding is_callsign is_callsign_before
older-callsign n = refl

pub older-address : (n : ℕ) → address_ok Older n ≡ address_ok_before n
unfolding address_ok address_ok_before is_callsign is_callsign_before
older-address n = refl

pub older-valid : (a : Address) → address_valid Older a ≡ address_valid_before a
unfolding address_valid address_valid_before is_callsign is_callsign_before
older-valid (Callsign n) = refl
older-valid address.Broadcast = refl

module _ (n : ℕ) where
  older-text : is_callsign Older n ≡ true → text_for n ≡ text_up_to 9 n
  older-text t = text-plain n (callsign-bounds Older n t).1

  pub older-decodes : (room : ℕ) → decoding Older room n ≡ decoding_before room n
  unfolding decoding decoding_before
  older-decodes room = rw (← older-callsign n) (by (is_callsign Older n) refl)
    where
      by : (b : Bool) → is_callsign Older n ≡ b
          → cond (ltb room 9) (Refused reason.CallsignBuffer 0) (cond b (Ok (Text (length (text_for n)))) (cond (eqb n broadcast) (Ok Broadcast) (Refused reason.AddressNumber 0)))
          ≡ cond (ltb room 9) (Refused reason.CallsignBuffer 0) (cond b (Ok (Text (length (text_up_to 9 n)))) (cond (eqb n broadcast) (Ok Broadcast) (Refused reason.AddressNumber 0)))
      by true t = rw (older-text t)
      by false t = refl

  -- by the number's own text, where it has one
  decoded-alike : (out : List ℕ) → decoded_into Older out n ≡ decoded_by_before (decoding Older (length out) n) out n
  unfolding decoded_into decoding
  decoded-alike out = by (ltb (length out) 9) (is_callsign Older n) (eqb n broadcast) refl
    where
      by : (short b d : Bool) → is_callsign Older n ≡ b
          → decoded_by (cond short (Refused reason.CallsignBuffer 0) (cond b (Ok (Text (length (text_for n)))) (cond d (Ok Broadcast) (Refused reason.AddressNumber 0)))) out n
          ≡ decoded_by_before (cond short (Refused reason.CallsignBuffer 0) (cond b (Ok (Text (length (text_for n)))) (cond d (Ok Broadcast) (Refused reason.AddressNumber 0)))) out n
      by true b d t = unfold decoded_by decoded_by_before in refl
      by false true d t = unfold decoded_by decoded_by_before in rw (older-text t)
      by false false true t = unfold decoded_by decoded_by_before in refl
      by false false false t = unfold decoded_by decoded_by_before in refl

  pub older-writes : (out : List ℕ) → decoded_into Older out n ≡ decoded_into_before out n
  unfolding decoded_into_before
  older-writes out = decoded-alike out ∙ rw (older-decodes (length out))

-- ---- what the older takes, the newer takes alike

pub callsign-newer : (e : Edition) (n : ℕ) → is_callsign Older n ≡ true → is_callsign e n ≡ true
unfolding is_callsign
callsign-newer e n t =
    let b : (0 < n) × (n ≤ last_plain) = callsign-bounds Older n t in
    within_in 1 (last_of e) n b.0 (omega (arith, last-ge e))

pub address-newer : (e : Edition) (n : ℕ) → address_ok Older n ≡ true → address_ok e n ≡ true
unfolding address_ok
address-newer e n t = by (is_callsign Older n) (eqb n broadcast) refl t
  where
    or-true : (b : Bool) → (b || true) ≡ true
    or-true true = refl
    or-true false = refl

    by : (a b : Bool) → is_callsign Older n ≡ a → (a || b) ≡ true → (is_callsign e n || b) ≡ true
    by true b g h = rw (callsign-newer e n g)
    by false true g h = or-true (is_callsign e n)
    by false false g h = absurd (false≢true h)

pub text-newer : (e : Edition) (s : List ℕ) (n : ℕ) → encoding Older s ≡ Ok n → encoding e s ≡ Ok n
text-newer e s n g =
    let t : text_for n ≡ s = text-returns Older s n g in
    rw t at (number-returns e n (callsign-newer e n (number-is-callsign Older s n g)))

-- ---- a number good under both has one text, and a text good under both one number

-- whether a number is broadcast, or a callsign under both
alike : (d e : Edition) (n : ℕ) → address_ok d n ≡ true → address_ok e n ≡ true → is_callsign d n ≡ is_callsign e n
unfolding address_ok
alike d e n g h = by (eqb n broadcast) refl
  where
    or-false : (b : Bool) → (b || false) ≡ true → b ≡ true
    or-false true t = refl
    or-false false t = t

    callsign : (c : Edition) → eqb n broadcast ≡ false → address_ok c n ≡ true → is_callsign c n ≡ true
    callsign c z k = or-false (is_callsign c n) (rw z at k)

    never : (c : Edition) → eqb n broadcast ≡ true → is_callsign c n ≡ false
    never c z = broadcast-no-callsign c n (eqb-true n broadcast z)

    by : (b : Bool) → eqb n broadcast ≡ b → is_callsign d n ≡ is_callsign e n
    by true z = never d z ∙ sym (never e z)
    by false z = callsign d z g ∙ sym (callsign e z h)

pub one-text : (d e : Edition) (n : ℕ) → address_ok d n ≡ true → address_ok e n ≡ true
    → ((room : ℕ) → decoding d room n ≡ decoding e room n) × ((out : List ℕ) → decoded_into d out n ≡ decoded_into e out n)
unfolding decoded_into decoding
one-text d e n g h = ((λ room. rw (alike d e n g h)), (λ out. rw (alike d e n g h)))

pub one_number : (d e : Edition) (s : List ℕ) (n m : ℕ) → encoding d s ≡ Ok n → encoding e s ≡ Ok m → n ≡ m
one_number Older e s n m g h = number-injective n m (sym (text-newer e s n g) ∙ h)
one_number Newer Older s n m g h = number-injective n m (sym g ∙ text-newer Newer s m h)
one_number Newer Newer s n m g h = number-injective n m (sym g ∙ h)
