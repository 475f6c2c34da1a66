-- What was read, for a buffer: the reader's answer for the validity, and the record's texts.
use mathlib.Core.Path.{◌≡◌, refl, sym, ◌∙◌}
use Prim.Native.Nat.{ℕ, ◌+◌, ◌≤◌}
use native.Mathlib.Omega.{arith}
use mathlib.Core.Bool.{Bool, true, false, cond}
use mathlib.Core.List.{List}
use lib.ListN.{length}
use lib.Dec.{leb}
use borrow.Author.Tests.{leb-true}
use Rattle.std.specs.Prelude.{Result, Ok, Err}
use Rattle.format.specs.declared.refusals.Reason.TheVariants as reason
use Rattle.format.specs.declared.refusals.Refusal.{Refusal}
use Rattle.fields.specs.Bytes.{part, over}
use Rattle.fields.specs.Rule.{Validity, Valid, Refused, ◌then◌, unless, written}
use Rattle.fields.proofs.Laws.{part-add, long-part, over-then, then-valid, unless-valid}
use Rattle.contact.specs.Contact.{contact_of, contact_answer}
use Rattle.channel_reader.specs.Reading.{channel_of, channel_answer}
use Rattle.codeplug.specs.Read.{header_of, header_answer, bank_of, bank_answer}
use Rattle.capi_convert.specs.Texts.{TextsPut, unless_short, texts_over, TextsOut}
use Rattle.capi_convert.specs.Files.{header_to_c, HeaderOut, bank_to_c, BankOut}
use Rattle.capi_convert.specs.Contacts.{contact_to_c, ContactOut}
use Rattle.capi_convert.specs.Channels.{channel_to_c, ChannelOut}
use Rattle.capi_convert.specs.declared.files.HeaderAnswer.{HeaderAnswer}
use Rattle.capi_convert.specs.declared.files.BankAnswer.{BankAnswer}
use Rattle.capi_convert.specs.declared.contacts.ContactAnswer.{ContactAnswer}
use Rattle.capi_convert.specs.declared.channels.ChannelAnswer.{ChannelAnswer}

-- ---- valid: there is room, and the record is valid

pub has_room : (size : ℕ) (lent : List ℕ) → unless (leb size (length lent)) reason.ShortBuffer 0 ≡ Valid → size ≤ length lent
has_room size lent g = leb-true size (length lent) (unless-valid _ reason.ShortBuffer 0 g)

pub is_valid_put : (ok : Bool) (v w : Validity) → w ≡ unless ok reason.ShortBuffer 0 then v → w ≡ Valid → v ≡ Valid
is_valid_put ok v w e g = (then-valid _ v (sym e ∙ g)).1

-- ---- two texts, one behind the other

pub both_texts : (out s : List ℕ) (k : ℕ) → k + 64 ≤ length s → over (over out 0 (part s k 32)) 32 (part s (k + 32) 32) ≡ over out 0 (part s k 64)
both_texts out s k h = rw (part-add s k 32 32) (over-then _ _ out 0 (part s k 32) 32 _ (long-part s k 32 (omega arith)) refl refl refl (omega arith))

-- ---- any reader: T is the record, whose texts are the bytes of s at k

module _ {T A : Type 0} (value : List ℕ → T) (texts : T → List ℕ) (to_c : Result T Refusal → A) (answer : Validity → List ℕ → Result T Refusal)
    (k size : ℕ)
    (valid-is : (s : List ℕ) → answer Valid s ≡ Ok (value s))
    (refused-is : (e : Refusal) (s : List ℕ) → answer (Err e) s ≡ Err e)
    (texts-are : (s : List ℕ) → texts (value s) ≡ part s k size) where
  short-answer : (ok : Bool) (v : Validity) (s : List ℕ) → cond ok (answer v s) (Refused reason.ShortBuffer 0) ≡ answer (unless ok reason.ShortBuffer 0 then v) s
  unfolding unless ◌then◌
  short-answer true v s = refl
  short-answer false v s = sym (refused-is (record { reason = reason.ShortBuffer; place = 0 }) s)

  put-answer : (w : Validity) (s lent : List ℕ) → written w lent (part s k size) ≡ texts_over texts lent (answer w s)
  unfolding written
  put-answer (Ok u) s lent = rw (valid-is s, texts-are s)
  put-answer (Err e) s lent = rw (refused-is e s)

  texts-out : (v w : Validity) (s lent after : List ℕ) (r : A) → TextsPut size (part s k size) v lent w after → r ≡ to_c (answer w s)
      → TextsOut texts to_c size (answer v s) lent r after
  texts-out v w s lent after r put e =
      let same : unless_short size lent (answer v s) ≡ answer w s = short-answer (leb size (length lent)) v s ∙ rw put.0 in
      record { answered = rw same e; buffer-is = rw same (put.1 ∙ put-answer w s lent) }

-- ---- each reader

pub contact_out : (v w : Validity) (s lent after : List ℕ) (r : ContactAnswer) → TextsPut 32 (part s 0 32) v lent w after
    → r ≡ contact_to_c (contact_answer w s) → ContactOut (contact_answer v s) lent r after
unfolding contact_answer contact_of
contact_out = texts-out contact_of _ contact_to_c contact_answer 0 32 (λ s. refl) (λ e s. refl) (λ s. refl)

pub channel_out : (v w : Validity) (s lent after : List ℕ) (r : ChannelAnswer) → TextsPut 64 (part s 13 64) v lent w after
    → r ≡ channel_to_c (channel_answer w s) → ChannelOut (channel_answer v s) lent r after
unfolding channel_answer channel_of
channel_out = texts-out channel_of _ channel_to_c channel_answer 13 64 (λ s. refl) (λ e s. refl) (λ s. rw (part-add s 13 32 32))

pub header_out : (v w : Validity) (s lent after : List ℕ) (r : HeaderAnswer) → TextsPut 64 (part s 10 64) v lent w after
    → r ≡ header_to_c (header_answer w s) → HeaderOut (header_answer v s) lent r after
unfolding header_answer header_of
header_out = texts-out header_of _ header_to_c header_answer 10 64 (λ s. refl) (λ e s. refl) (λ s. rw (part-add s 10 32 32))

pub bank_out : (v w : Validity) (s lent after : List ℕ) (r : BankAnswer) → TextsPut 32 (part s 0 32) v lent w after
    → r ≡ bank_to_c (bank_answer w s) → BankOut (bank_answer v s) lent r after
unfolding bank_answer bank_of
bank_out = texts-out bank_of _ bank_to_c bank_answer 0 32 (λ s. refl) (λ e s. refl) (λ s. refl)
