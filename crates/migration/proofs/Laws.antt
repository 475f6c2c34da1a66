-- Laws of records migrated in place: one record, and that a valid file holds them all.
use Prim.Native.Nat.{ℕ, ◌+◌, ◌*◌, ◌≤◌, ◌<◌}
use mathlib.Core.Path.{◌≡◌, refl, sym, ◌∙◌}
use mathlib.Core.List.{List, [], ◌∷◌}
use native.Mathlib.Omega.{arith}
use lib.ListN.{length, take, get_or, set}
use borrow.Author.Tests.{ne_eqb}
use Rattle.fields.specs.Bytes.{part, over, AllBytes}
use Rattle.fields.proofs.Laws.{get_d_part, length_part, over-byte}
use Rattle.m17.specs.declared.Edition.{Edition}
use Rattle.renumber.proofs.Laws.{over-inner, over-self}
use Rattle.layout.specs.Places.{contact_count, channel_count, contact_place, channel_place, offset_place, banks_place}
use Rattle.edits.proofs.AcceptedCodeplug.{has-layout}
use Rattle.legacy.specs.Reading.{legacy_file_rule}
use Rattle.legacy.specs.Migration.{migrated_byte, migrated_at, migrated_contact, migrated_channel, with_records_at, migrated, migrated_by}
use Rattle.legacy.proofs.RunLaws.{take-changed, records-more, records-none}
use Rattle.legacy.proofs.ContactLaws.{contact-keeps}
use Rattle.legacy.proofs.ChannelLaws.{channel-keeps}
use Rattle.legacy.proofs.LayoutLaws.{banks_place-same, channel_place-same, channel_count-same}
use Rattle.legacy.proofs.FileLaws.{migrated-front, migrated-length, migrated-bytes, files-agree}
use Rattle.std.specs.Prelude.{Err}
use Rattle.fields.specs.Rule.{Valid}
use Rattle.format.specs.declared.refusals.Refusal.{Refusal}

-- ---- one record

-- the byte at k of the record of w bytes at p, where it stands
byte_inside : (d : List ℕ) (p w k : ℕ) → k < w → p + w ≤ length d
    → set d (p + k) (migrated_byte (get_or d (p + k) 0)) ≡ over d p (migrated_at k (part d p w))
byte_inside d p w k g h =
    let x = migrated_byte (get_or d (p + k) 0) in
    let l : length (part d p w) ≡ w = length_part d p w h in
    let e : migrated_at k (part d p w) ≡ over (part d p w) k (x ∷ []) =
    rw (get_d_part d p w k g) (over-byte (part d p w) k x (omega arith))
    in
    over-byte d (p + k) x (omega arith) ∙ rw e (sym (over-inner d p w k 1 (x ∷ []) refl (omega arith) h))

pub contact_dmr : (d : List ℕ) (p : ℕ) → get_or d (p + 32) 0 ≡ 1 → p + 39 ≤ length d
    → set d (p + 37) (migrated_byte (get_or d (p + 37) 0)) ≡ over d p (migrated_contact (part d p 39))
unfolding migrated_contact
contact_dmr d p m h = rw (get_d_part d p 39 32 (omega arith), m) (byte_inside d p 39 37 (omega arith) h)

pub contact_other : (d : List ℕ) (p : ℕ) → (get_or d (p + 32) 0 ≡ 1 → ⊥) → p + 39 ≤ length d
    → d ≡ over d p (migrated_contact (part d p 39))
unfolding migrated_contact
contact_other d p m h = rw (get_d_part d p 39 32 (omega arith), ne_eqb (get_or d (p + 32) 0) 1 m) (sym (over-self d p 39 h))

pub channel_moved : (d : List ℕ) (p : ℕ) → p + 90 ≤ length d
    → set d (p + 1) (migrated_byte (get_or d (p + 1) 0)) ≡ over d p (migrated_channel (part d p 90))
unfolding migrated_channel
channel_moved d p h = byte_inside d p 90 1 (omega arith) h

-- ---- a valid file holds all its records

pub records-inside : (ed : Edition) (f : List ℕ) → AllBytes f → legacy_file_rule ed f ≡ Valid
    → (88 + contact_count f * 39 ≤ length f) × (channel_place f 0 + channel_count f * 90 ≤ length f)
unfolding banks_place offset_place channel_place contact_place
records-inside ed f b h =
    let m = (has-layout ed (migrated f) (files-agree f ed b ∙ h) (migrated-bytes f b)).table in
    let t : banks_place f ≤ length f = rw (banks_place-same (migrated f) f (migrated-front f), migrated-length f) at m in
    (omega arith, omega arith)

-- ---- the contacts, then the channels

pub migrated-in-two : (f d e : List ℕ) (start n c : ℕ) → c ≡ contact_count f → d ≡ with_records_at 88 migrated_contact 39 c f → start ≡ channel_place f 0
    → n ≡ channel_count f → e ≡ with_records_at start migrated_channel 90 n d → e ≡ migrated f
unfolding migrated contact_place
migrated-in-two f d e start n c k x p q y =
    let g : take 88 d ≡ take 88 f =
    rw x (take-changed migrated_contact contact-keeps 39 88 c f 88 (omega arith))
    in
    y ∙ rw (p, q, ← channel_place-same d f g 0, ← channel_count-same d f g, x, k)

-- ---- the first i records of a file, one more

pub contacts_none : (f : List ℕ) → f ≡ with_records_at 88 migrated_contact 39 0 f
contacts_none f = records-none migrated_contact 39 88 f

pub contacts_more : (f d : List ℕ) (i : ℕ) → 88 + i * 39 + 39 ≤ length f → d ≡ with_records_at 88 migrated_contact 39 i f
    → over d (88 + i * 39) (migrated_contact (part d (88 + i * 39) 39)) ≡ with_records_at 88 migrated_contact 39 (i + 1) f
contacts_more f d i h e = records-more migrated_contact contact-keeps 39 88 i f d _ h e refl

pub channels_none : (start : ℕ) (f : List ℕ) → f ≡ with_records_at start migrated_channel 90 0 f
channels_none start f = records-none migrated_channel 90 start f

pub channels_more : (start : ℕ) (f d : List ℕ) (i : ℕ) → start + i * 90 + 90 ≤ length f → d ≡ with_records_at start migrated_channel 90 i f
    → over d (start + i * 90) (migrated_channel (part d (start + i * 90) 90)) ≡ with_records_at start migrated_channel 90 (i + 1) f
channels_more start f d i h e = records-more migrated_channel channel-keeps 90 start i f d _ h e refl

-- ---- what the call leaves

pub left_as_is : (ed : Edition) (f : List ℕ) (e : Refusal) → legacy_file_rule ed f ≡ Err e → migrated_by (legacy_file_rule ed f) f ≡ f
unfolding migrated_by
left_as_is ed f e h = rw h

pub left-migrated : (ed : Edition) (f m : List ℕ) → legacy_file_rule ed f ≡ Valid → m ≡ migrated f → m ≡ migrated_by (legacy_file_rule ed f) f
unfolding migrated_by
left-migrated ed f m h e = rw (h, e)
