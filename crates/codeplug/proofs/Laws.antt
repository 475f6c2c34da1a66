-- Laws of reading: a place that is there, and what stands beside a validity.
use Prim.Native.Nat.{ℕ, ◌≤◌, ◌<◌}
use mathlib.Core.Path.{◌≡◌, refl, ap, ◌∙◌}
use mathlib.Core.List.{List}
use native.Mathlib.Omega.{arith}
use lib.ListN.{length}
use lib.Dec.{ltb}
use borrow.Author.Tests.{lt-ltb, le-ltb, ltb-true}
use Rattle.fields.specs.Bytes.{part}
use Rattle.fields.specs.Rule.{◌then◌, unless, Validity, Valid, Refused}
use Rattle.fields.proofs.Laws.{length_part, then-valid, valid-then, both-valid, unless-valid, unless-passes}
use Rattle.m17.specs.declared.Edition.{Edition}
use Rattle.contact.specs.Contact.{contact_answer}
use Rattle.channel_reader.specs.Reading.{channel_answer}
use Rattle.layout.specs.Places.{contact_count, channel_count, bank_count, contact_place, channel_place, offset_place}
use Rattle.layout.specs.Banks.{offset_at, bank_head, banks_rule, bank_place}
use Rattle.layout.proofs.Laws.{bank-leads, bank-valid, bank-head-length}
use Rattle.file_rule.specs.File.{channel_at, file_rule}
use Rattle.codeplug.specs.Read.{bytes_answer, place_rule, contact_read, channel_read, bank_answer, bank_read, entries_answer}
use Rattle.codeplug.specs.Prevalidated.{contact_prevalidated_rule, contact_prevalidated, channel_prevalidated_rule, channel_prevalidated, table_place, bank_prevalidated_rule, bank_prevalidated}
use Rattle.codeplug.specs.There.{BankLed}
use Rattle.file_rule.proofs.Laws.{file-valid, contact-there, contact-whole, channel-there, channel-whole}
use Rattle.std.specs.Prelude.{Ok, Err}
use Rattle.format.specs.declared.refusals.Refusal.{Refusal}
use Rattle.format.specs.declared.refusals.Reason.TheVariants as reason

-- ---- bank n, where its offset leads

pub table-leads : (f : List ℕ) (n : ℕ) → banks_rule f ≡ Valid → n < bank_count f → table_place f n ≡ bank_place f n
unfolding table_place
table-leads f n h g = bank-leads f n h g

pub bank_whole : (f : List ℕ) (p : ℕ) → bank_head f p ≡ Valid → 34 ≤ length (part f p 34)
bank_whole f p h = omega (arith, length_part f p 34 (bank-head-length f p h))

-- ---- the file's validity, then the place

pub record ValidPlace (ed : Edition) (f : List ℕ) (n count : ℕ) : Type 0 where
  pub file : file_rule ed f ≡ Valid
  pub below : n < count

pub place-valid : (ed : Edition) (f : List ℕ) (n count : ℕ) → place_rule ed f n count ≡ Valid → ValidPlace ed f n count
unfolding place_rule
place-valid ed f n count h =
    let a = then-valid _ _ h in
    record { file = a.0; below = ltb-true n count (unless-valid (ltb n count) reason.NoPlace 0 a.1) }

pub place-passes : (ed : Edition) (f : List ℕ) (n count : ℕ) → file_rule ed f ≡ Valid → n < count → place_rule ed f n count ≡ Valid
unfolding place_rule
place-passes ed f n count h g = both-valid _ _ h (unless-passes (ltb n count) reason.NoPlace 0 (lt-ltb n count g))

-- the place before a record's own validity; v is that validity
pub place_below : (n count : ℕ) (v : Validity) → n < count → unless (ltb n count) reason.NoPlace 0 then v ≡ v
place_below n count v h = valid-then _ v (unless-passes (ltb n count) reason.NoPlace 0 (lt-ltb n count h))

pub place_past : (n count : ℕ) (v : Validity) → count ≤ n → unless (ltb n count) reason.NoPlace 0 then v ≡ Refused reason.NoPlace 0
unfolding unless ◌then◌
place_past n count v h = rw (le-ltb n count h)

-- a channel's own validity comes with all of its bytes
pub channel_whole : (f : List ℕ) (p : ℕ) → channel_at f p ≡ Valid → 90 ≤ length (part f p 90)
channel_whole f p h = channel-whole f p h

-- ---- a record whose place is valid, with the whole of its bytes

module _ (ed : Edition) (f : List ℕ) (n count : ℕ) (valid : place_rule ed f n count ≡ Valid) where
  pub placed-contact : count ≡ contact_count f → 39 ≤ length (part f (contact_place n) 39)
  placed-contact e =
      let g = place-valid ed f n count valid in
      contact-whole ed f (contact_place n) (contact-there ed f n (file-valid ed f g.file).contacts (omega (arith, g.below)))

  pub placed-channel : count ≡ channel_count f → 90 ≤ length (part f (channel_place f n) 90)
  placed-channel e =
      let g = place-valid ed f n count valid in
      channel-whole f (channel_place f n) (channel-there f n (file-valid ed f g.file).channels (omega (arith, g.below)))

  -- its offset leads to it
  pub placed-leads : count ≡ bank_count f → table_place f n ≡ bank_place f n
  placed-leads e =
      let g = place-valid ed f n count valid in
      table-leads f n (file-valid ed f g.file).banks (omega (arith, g.below))

  pub placed-bank : count ≡ bank_count f → 34 ≤ length (part f (table_place f n) 34)
  placed-bank e =
      let g = place-valid ed f n count valid in
      rw (placed-leads e)
      (bank_whole f (bank_place f n) (bank-valid f n (file-valid ed f g.file).banks (omega (arith, g.below))).0)

-- ---- a bank of a file that was validated before

pub record ValidPrevalidated (f : List ℕ) (n : ℕ) : Type 0 where
  pub below : n < bank_count f
  pub head : bank_head f (table_place f n) ≡ Valid

pub prevalidated-valid : (f : List ℕ) (n : ℕ) → bank_prevalidated_rule f n ≡ Valid → ValidPrevalidated f n
unfolding bank_prevalidated_rule
prevalidated-valid f n h =
    let a = then-valid _ _ h in
    record {
      below = ltb-true n (bank_count f) (unless-valid (ltb n (bank_count f)) reason.NoPlace 0 a.0);
      head = (then-valid (offset_at f (offset_place f n)) (bank_head f (table_place f n)) a.1).1;
    }

-- ---- what stands beside a validity: beside a refusal the bytes do not matter

pub never : {A : Type 0} {v : Validity} {e : Refusal} → v ≡ Err e → v ≡ Valid → A
never {A} {v} {e} h g = let z : ◌≡◌ {A = ℕ} 0 1 = cc in absurd (omega arith)

pub contact-same : (v : Validity) (s t : List ℕ) → (v ≡ Valid → s ≡ t) → contact_answer v s ≡ contact_answer v t
unfolding contact_answer
contact-same (Ok u) s t h = rw (h refl)
contact-same (Err e) s t h = refl

pub channel-same : (v : Validity) (s t : List ℕ) → (v ≡ Valid → s ≡ t) → channel_answer v s ≡ channel_answer v t
unfolding channel_answer
channel-same (Ok u) s t h = rw (h refl)
channel-same (Err e) s t h = refl

pub bank-same : (v : Validity) (s t : List ℕ) → (v ≡ Valid → s ≡ t) → bank_answer v s ≡ bank_answer v t
unfolding bank_answer
bank-same (Ok u) s t h = rw (h refl)
bank-same (Err e) s t h = refl

pub entries-same : (v : Validity) (f : List ℕ) (p q : ℕ) → (v ≡ Valid → p ≡ q) → entries_answer v f p ≡ entries_answer v f q
unfolding entries_answer
entries-same (Ok u) f p q h = rw (h refl)
entries-same (Err e) f p q h = refl

-- ---- what is read, from the record's validity and its bytes

pub bytes-valid : (v : Validity) (s t : List ℕ) → s ≡ bytes_answer v t → v ≡ Valid → s ≡ t
unfolding bytes_answer
bytes-valid (Ok u) s t h g = h
bytes-valid (Err e) s t h g = never refl g

pub contact-read : (ed : Edition) (f : List ℕ) (n : ℕ) (v : Validity) (s : List ℕ) → v ≡ place_rule ed f n (contact_count f)
    → s ≡ bytes_answer v (part f (contact_place n) 39) → contact_answer v s ≡ contact_read ed f n
unfolding contact_read
contact-read ed f n v s e h = contact-same v s _ (bytes-valid v s _ h) ∙ rw e

pub contact-read-prevalidated : (ed : Edition) (f : List ℕ) (n : ℕ) (v : Validity) (s : List ℕ) → v ≡ contact_prevalidated_rule ed f n
    → s ≡ bytes_answer v (part f (contact_place n) 39) → contact_answer v s ≡ contact_prevalidated ed f n
unfolding contact_prevalidated
contact-read-prevalidated ed f n v s e h = contact-same v s _ (bytes-valid v s _ h) ∙ rw e

pub channel-read : (ed : Edition) (f : List ℕ) (n : ℕ) (v : Validity) (s : List ℕ) → v ≡ place_rule ed f n (channel_count f)
    → s ≡ bytes_answer v (part f (channel_place f n) 90) → channel_answer v s ≡ channel_read ed f n
unfolding channel_read
channel-read ed f n v s e h = channel-same v s _ (bytes-valid v s _ h) ∙ rw e

pub channel-read-prevalidated : (f : List ℕ) (n : ℕ) (v : Validity) (s : List ℕ) → v ≡ channel_prevalidated_rule f n
    → s ≡ bytes_answer v (part f (channel_place f n) 90) → channel_answer v s ≡ channel_prevalidated f n
unfolding channel_prevalidated
channel-read-prevalidated f n v s e h = channel-same v s _ (bytes-valid v s _ h) ∙ rw e

pub bank-read : (ed : Edition) (f : List ℕ) (n : ℕ) (v : Validity) (s : List ℕ) → v ≡ place_rule ed f n (bank_count f)
    → (v ≡ Valid → BankLed f n) → s ≡ bytes_answer v (part f (table_place f n) 34) → bank_answer v s ≡ bank_read ed f n
unfolding bank_read
bank-read ed f n v s e led h = bank-same v s _ (λ g. bytes-valid v s _ h g ∙ ap (λ (p : ℕ). part f p 34) (led g).1) ∙ rw e

pub bank-read-prevalidated : (f : List ℕ) (n : ℕ) (v : Validity) (s : List ℕ) → v ≡ bank_prevalidated_rule f n
    → s ≡ bytes_answer v (part f (table_place f n) 34) → bank_answer v s ≡ bank_prevalidated f n
unfolding bank_prevalidated
bank-read-prevalidated f n v s e h = bank-same v s _ (bytes-valid v s _ h) ∙ rw e
