-- The promises of migrating (specs/Promise.antt).
use Prim.Native.Nat.{ℕ, ◌+◌, ◌-◌, ◌*◌, ◌/◌, ◌%◌, ◌≤◌, ◌<◌}
use mathlib.Core.Path.{◌≡◌, refl, ap, sym, ◌∙◌}
use mathlib.Core.Bool.{Bool, true, false}
use mathlib.Core.List.{List}
use native.Mathlib.Omega.{arith}
use lib.ListN.{get_or}
use lib.Seq.{get_or-take, get_or-drop}
use lib.Dec.{ltb}
use borrow.Author.Tests.{lt-ltb, ltb-true, ltb-false}
use Rattle.fields.specs.Bytes.{part, AllBytes}
use Rattle.fields.specs.Rule.{Validity, Valid, ◌then◌, unless}
use Rattle.fields.proofs.Laws.{get_d_part, bytes-part}
use Rattle.m17.specs.declared.Edition.{Edition}
use Rattle.m17.specs.declared.Edition.TheVariants.{Older, Newer}
use Rattle.contact.specs.Contact.{contact_answer}
use Rattle.channel_reader.specs.Reading.{channel_answer}
use Rattle.layout.specs.Places.{contact_count, channel_count, bank_count, contact_place, channel_place, offset_place}
use Rattle.layout.specs.Banks.{bank_place, entry_count}
use Rattle.file_rule.specs.File.{file_rule}
use Rattle.validation.specs.Validation.{validated_by, validation}
use Rattle.codeplug.specs.Read.{header_of, header_answer, header_read, place_rule, contact_read, channel_read, bank_answer, bank_read, entries_answer, entries_read, entry_answer, entry_read}
use Rattle.codeplug.proofs.Editions.{older-in-newer}
use Rattle.edits.proofs.Promised.{editor-promise}
use Rattle.legacy.specs.Reading.{legacy_file_rule}
use Rattle.legacy.specs.Migration.{migrated}
use Rattle.legacy.proofs.LayoutLaws.{part_same, counts_same, contact_count-same, channel_count-same, bank_count-same, channel_place-same, entry_count-same, bank_place-same}
use Rattle.legacy.proofs.ContactLaws.{contact-of, contact-other}
use Rattle.legacy.proofs.ChannelLaws.{channel-of, channel-other}
use Rattle.legacy.proofs.FileLaws.{migrated-front, migrated-length, migrated-contact, migrated-channel, migrated-tail, migrated-bytes, migrated-one, migrated-stays, files-agree}
use Rattle.legacy.proofs.RefusalLaws.{refused-by-seven}
use Rattle.legacy_validation.specs.Validation.{legacy_validation}
use Rattle.migration.specs.Promise.{ReadingsAgree, LegacyOlderInNewer, ReadsTheSame, FieldsStay, SettingsPlace, TraitsPlace, OthersStay, NoTwoTheSame, BothStay, OthersBySeven, Demand3Migrated}
use Rattle.std.specs.Prelude.{Ok, Err}

-- ---- the two readings agree

pub readings-agree : ReadingsAgree
unfolding validation legacy_validation validated_by
readings-agree ed f b = rw (files-agree f ed b) (by (legacy_file_rule ed f))
  where
    by : (v : Validity) → validated_by v (migrated f) ≡ validated_by v f
    by (Ok u) = rw (counts_same (migrated f) f (migrated-front f))
    by (Err e) = refl

pub legacy-older-in-newer : LegacyOlderInNewer
unfolding legacy_validation
legacy-older-in-newer f b h =
    let a : legacy_file_rule Newer f ≡ Valid = sym (files-agree f Newer b) ∙ (older-in-newer (migrated f) (files-agree f Older b ∙ h)).0 in
    (rw (a, h), rw (a, h))

-- ---- every field reads as it did

module _ (ed : Edition) (f : List ℕ) (b : AllBytes f) (h : legacy_file_rule ed f ≡ Valid) where
  abbrev m : List ℕ
  m = migrated f

  accepted : file_rule ed m ≡ Valid
  accepted = files-agree f ed b ∙ h

  -- a place below the count
  place-valid : (n count : ℕ) → n < count → place_rule ed m n count ≡ Valid
  unfolding place_rule ◌then◌ unless
  place-valid n count l = rw (accepted, lt-ltb n count l)

  read-header : header_read ed m ≡ Ok (header_of f)
  unfolding header_read header_answer header_of
  read-header =
      rw (
        accepted,
        counts_same m f (migrated-front f),
        part_same m f 88 10 32 (migrated-front f) (omega arith),
        part_same m f 88 42 32 (migrated-front f) (omega arith),
        part_same m f 88 74 8 (migrated-front f) (omega arith),
      )

  read-bank-place : (n : ℕ) → (bank_place m n ≡ bank_place f n) × (offset_place f 0 ≤ bank_place f n)
  read-bank-place n = bank_place-same m f (migrated-front f) (offset_place f 0) (migrated-length f) (migrated-tail f) (omega arith) n

  read-entries : (n : ℕ) → n < bank_count f → entries_read ed m n ≡ part f (bank_place f n + 34) (entry_count f (bank_place f n) * 2)
  unfolding entries_read entries_answer
  read-entries n l =
      let e = read-bank-place n in
      let q = bank_place f n in
      rw (
        bank_count-same m f (migrated-front f),
        place-valid n (bank_count f) l,
        e.0,
        entry_count-same m f (migrated-front f) (offset_place f 0) (migrated-length f) (migrated-tail f) q e.1,
        migrated-tail f (q + 34) (omega (arith, e.1)),
      )

  same : ReadsTheSame ed f m
  unfolding contact_read contact_answer channel_read channel_answer bank_read bank_answer entry_read entry_answer
  same =
      record {
        accepted = accepted;
        counts = counts_same m f (migrated-front f);
        header = read-header;
        contact = λ n l.
            rw (contact_count-same m f (migrated-front f), place-valid n (contact_count f) l, migrated-contact f n l, contact-of (part f (contact_place n) 39) (bytes-part f (contact_place n) 39 b));
        channel = λ n l.
            rw (channel_count-same m f (migrated-front f), place-valid n (channel_count f) l, channel_place-same m f (migrated-front f) n, migrated-channel f n l, channel-of (part f (channel_place f n) 90) (bytes-part f (channel_place f n) 90 b));
        bank = λ n l.
            rw (bank_count-same m f (migrated-front f), place-valid n (bank_count f) l, (read-bank-place n).0, migrated-tail f (bank_place f n) (read-bank-place n).1);
        entry = λ n i l. rw (bank_count-same m f (migrated-front f), place-valid n (bank_count f) l, read-entries n l);
      }

pub fields-stay : FieldsStay
fields-stay ed f b h = same ed f b h

-- ---- every other byte and the length stay

module _ (f : List ℕ) (i : ℕ) (no-settings : SettingsPlace f i → ⊥) (no-traits : TraitsPlace f i → ⊥) where
  stays-header : i < 88 → get_or (migrated f) i 0 ≡ get_or f i 0
  stays-header h =
      sym (get_or-take 88 (migrated f) i 0 h) ∙ ap (λ (l : List ℕ). get_or l i 0) (migrated-front f) ∙ get_or-take 88 f i 0 h

  -- byte j of contact n, and of channel n
  stays-contact : (n j : ℕ) → n < contact_count f → j < 39 → i ≡ contact_place n + j → get_or (migrated f) i 0 ≡ get_or f i 0
  stays-contact n j h l e =
      let s = part f (contact_place n) 39 in
      let mode = get_d_part f (contact_place n) 39 32 (omega arith) in
      let o = contact-other s j (λ x y. no-settings (n, (h, (sym mode ∙ x, e ∙ ap (λ (k : ℕ). contact_place n + k) y)))) in
      rw e
      (sym (get_d_part (migrated f) (contact_place n) 39 j l)
      ∙ ap (λ (r : List ℕ). get_or r j 0) (migrated-contact f n h)
      ∙ o
      ∙ get_d_part f (contact_place n) 39 j l)

  stays-channel : (n j : ℕ) → n < channel_count f → j < 90 → i ≡ channel_place f n + j → get_or (migrated f) i 0 ≡ get_or f i 0
  stays-channel n j h l e =
      let s = part f (channel_place f n) 90 in
      let o = channel-other s j (λ y. no-traits (n, (h, e ∙ ap (λ (k : ℕ). channel_place f n + k) y))) in
      rw e
      (sym (get_d_part (migrated f) (channel_place f n) 90 j l)
      ∙ ap (λ (r : List ℕ). get_or r j 0) (migrated-channel f n h)
      ∙ o
      ∙ get_d_part f (channel_place f n) 90 j l)

  stays-behind : offset_place f 0 ≤ i → get_or (migrated f) i 0 ≡ get_or f i 0
  stays-behind h =
      let e : i + 0 ≡ i = omega arith in
      let d = ap (λ (l : List ℕ). get_or l 0 0) (migrated-tail f i h) in
      rw (get_or-drop i (migrated f) 0 0, get_or-drop i f 0 0, e) at d

  -- where i stands
  stays : get_or (migrated f) i 0 ≡ get_or f i 0
  unfolding offset_place channel_place contact_place
  stays = by (ltb i 88) refl
    where
      channels : (t : Bool) → ltb i (offset_place f 0) ≡ t → channel_place f 0 ≤ i → get_or (migrated f) i 0 ≡ get_or f i 0
      channels true e h =
          let l : i < offset_place f 0 = ltb-true _ _ e in
          let k = i - channel_place f 0 in
          stays-channel (k / 90) (k % 90) (omega arith) (omega arith) (omega arith)
      channels false e h = stays-behind (ltb-false _ _ e)

      contacts : (t : Bool) → ltb i (channel_place f 0) ≡ t → 88 ≤ i → get_or (migrated f) i 0 ≡ get_or f i 0
      contacts true e h =
          let l : i < channel_place f 0 = ltb-true _ _ e in
          stays-contact ((i - 88) / 39) ((i - 88) % 39) (omega arith) (omega arith) (omega arith)
      contacts false e h = channels (ltb i (offset_place f 0)) refl (ltb-false _ _ e)

      by : (t : Bool) → ltb i 88 ≡ t → get_or (migrated f) i 0 ≡ get_or f i 0
      by true e = stays-header (ltb-true _ _ e)
      by false e = contacts (ltb i (channel_place f 0)) refl (ltb-false _ _ e)

pub others-stay : OthersStay
others-stay f = (migrated-length f, λ i s t. stays f i s t)

-- ---- the rest

pub no-two-the-same : NoTwoTheSame
no-two-the-same f g a b e = migrated-one f g a b e

pub both-stay : BothStay
both-stay ed f b n l = migrated-stays f ed b n l

pub others-by-seven : OthersBySeven
others-by-seven ed f n p h e = refused-by-seven ed f n p h e

pub demand3-migrated : Demand3Migrated
demand3-migrated ed f spare history h b calls edits =
    editor-promise ed (migrated f) spare history (files-agree f ed b ∙ h) (migrated-bytes f b) calls edits
