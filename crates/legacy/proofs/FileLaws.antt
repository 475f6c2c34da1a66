-- A file and what migrating makes of it: what stands where, and that what refuses it by the new reading is what refused it by the legacy one. Of any bytes.
use Prim.Native.Nat.{ℕ, ◌+◌, ◌*◌, ◌≤◌, ◌<◌}
use mathlib.Core.Path.{◌≡◌, refl, ap, sym, ◌∙◌}
use mathlib.Core.Bool.{Bool, true, false, ◌&&◌}
use mathlib.Core.List.{List}
use native.Mathlib.Omega.{arith}
use lib.ListN.{length, take, drop, get_or}
use lib.Dec.{ltb, eqb}
use borrow.Author.Tests.{ltb-true}
use Rattle.fields.specs.Bytes.{part, AllBytes}
use Rattle.fields.proofs.Laws.{get_d_part, bytes-part, each_same, each-valid, then-valid}
use Rattle.m17.specs.declared.Edition.{Edition}
use Rattle.layout.specs.Places.{contact_count, channel_count, contact_place, channel_place, offset_place}
use Rattle.file_rule.specs.File.{contact_at, contacts_rule, names_contact, index_ok, channel_at, channels_rule, file_rule}
use Rattle.file_rule.proofs.Laws.{file-valid, contact-there, channel-there}
use Rattle.legacy.specs.Reading.{legacy_contact_at, legacy_contacts_rule, legacy_channel_at, legacy_channels_rule, legacy_file_rule}
use Rattle.legacy.specs.Migration.{migrated_contact, migrated_channel, contacts_migrated, migrated}
use Rattle.legacy.proofs.RunLaws.{length-changed, take-changed, record-changed, drop-behind, changed-one, changed-stays, changed-bytes}
use Rattle.legacy.proofs.LayoutLaws.{part_same, contact_count-same, channel_count-same, channel_place-same, header-same, offsets-same, banks-same}
use Rattle.legacy.proofs.ContactLaws.{contact-keeps, contact-mode, contact-rule, contact-one, contact-bytes, contact-stays}
use Rattle.legacy.proofs.ChannelLaws.{channel-keeps, channel-mode, channel-named, channel-rule, channel-one, channel-bytes, channel-stays}
use Rattle.std.specs.Prelude.{Some, None, Option}
use Rattle.fields.specs.Rule.{Valid}

-- ---- places, in numbers

contacts-start : 88 ≤ contact_place 0
unfolding contact_place
contacts-start = omega arith

contact-walks : (i : ℕ) → contact_place 0 + i * 39 ≡ contact_place i
unfolding contact_place
contact-walks i = omega arith

channel-walks : (f : List ℕ) (i : ℕ) → channel_place f 0 + i * 90 ≡ channel_place f i
unfolding channel_place
channel-walks f i = omega arith

contacts-end : (f : List ℕ) → contact_place 0 + contact_count f * 39 ≡ channel_place f 0
unfolding channel_place contact_place
contacts-end f = omega arith

channels-end : (f : List ℕ) → channel_place f 0 + channel_count f * 90 ≡ offset_place f 0
unfolding offset_place channel_place
channels-end f = omega arith

contact-inside : (f : List ℕ) (i : ℕ) → i < contact_count f → contact_place i + 39 ≤ channel_place f 0
unfolding channel_place contact_place
contact-inside f i h = omega arith

-- ---- contacts alone

module _ (f : List ℕ) where
  abbrev half : List ℕ
  half = contacts_migrated f

  half-front : take 88 half ≡ take 88 f
  half-front = take-changed migrated_contact contact-keeps 39 (contact_place 0) (contact_count f) f 88 contacts-start

  half_length : length half ≡ length f
  half_length = length-changed migrated_contact contact-keeps 39 (contact_place 0) (contact_count f) f

  half-contact : (i : ℕ) → i < contact_count f → part half (contact_place i) 39 ≡ migrated_contact (part f (contact_place i) 39)
  half-contact i h =
      rw (contact-walks i) at (record-changed migrated_contact contact-keeps 39 (contact_place 0) (contact_count f) f i h)

  half-tail : (q : ℕ) → channel_place f 0 ≤ q → drop q half ≡ drop q f
  half-tail q h =
      drop-behind migrated_contact contact-keeps 39 (contact_place 0) (contact_count f) f q (omega (arith, contacts-end f))

  half_place : channel_place half 0 ≡ channel_place f 0
  half_place = channel_place-same half f half-front 0

  half_count : channel_count half ≡ channel_count f
  half_count = channel_count-same half f half-front

  -- ---- and channels

  migrated-take : (j : ℕ) → j ≤ channel_place f 0 → take j (migrated f) ≡ take j half
  unfolding migrated
  migrated-take j h =
      take-changed migrated_channel channel-keeps 90 (channel_place half 0) (channel_count half) half j (omega (arith, half_place))

  pub migrated-length : length (migrated f) ≡ length f
  unfolding migrated
  migrated-length =
      length-changed migrated_channel channel-keeps 90 (channel_place half 0) (channel_count half) half ∙ half_length

  pub migrated-front : take 88 (migrated f) ≡ take 88 f
  migrated-front = migrated-take 88 (omega (arith, contacts-start, contacts-end f)) ∙ half-front

  pub migrated-contact : (i : ℕ) → i < contact_count f → part (migrated f) (contact_place i) 39 ≡ migrated_contact (part f (contact_place i) 39)
  migrated-contact i h =
      part_same (migrated f) half (channel_place f 0) (contact_place i) 39 (migrated-take (channel_place f 0) (omega arith)) (contact-inside f i h)
      ∙ half-contact i h

  pub migrated-channel : (i : ℕ) → i < channel_count f → part (migrated f) (channel_place f i) 90 ≡ migrated_channel (part f (channel_place f i) 90)
  unfolding migrated
  migrated-channel i h =
      let e : channel_place half 0 + i * 90 ≡ channel_place f i = rw half_place (channel-walks f i) in
      let a =
      record-changed migrated_channel channel-keeps 90 (channel_place half 0) (channel_count half) half i (omega (arith, half_count))
      in
      let b = half-tail (channel_place f i) (omega (arith, channel-walks f i)) in
      rw (e, b) at a

  pub migrated-tail : (q : ℕ) → offset_place f 0 ≤ q → drop q (migrated f) ≡ drop q f
  unfolding migrated
  migrated-tail q h =
      drop-behind migrated_channel channel-keeps 90 (channel_place half 0) (channel_count half) half q
      (rw (half_place, half_count) (omega (arith, channels-end f)))
      ∙ half-tail q (omega (arith, channels-end f))

  -- ---- what refuses it

  contacts-agree : (ed : Edition) → AllBytes f → contacts_rule ed (migrated f) ≡ legacy_contacts_rule ed f
  unfolding contacts_rule legacy_contacts_rule
  contacts-agree ed b =
      rw (contact_count-same (migrated f) f migrated-front)
      (each_same (contact_at ed (migrated f)) (legacy_contact_at ed f) (contact_count f) 39 (contact_place 0)
      (λ i h. rw (contact-walks i, migrated-contact i h) (contact-rule ed (part f (contact_place i) 39) (contact_place i) (bytes-part f (contact_place i) 39 b))))

  -- a contact's mode stays, so a channel names a contact where it did
  names-agree : (mode : ℕ) (c : (Option ℕ)) → names_contact (migrated f) mode c ≡ names_contact f mode c
  unfolding names_contact
  names-agree mode None = refl
  names-agree mode (Some i) = rw (contact_count-same (migrated f) f migrated-front) (by (ltb i (contact_count f)) refl)
    where
      by : (t : Bool) → ltb i (contact_count f) ≡ t
          → t && eqb (get_or (migrated f) (contact_place i + 32) 0) mode ≡ t && eqb (get_or f (contact_place i + 32) 0) mode
      by true e =
          let h : i < contact_count f = ltb-true _ _ e in
          let a = get_d_part (migrated f) (contact_place i) 39 32 (omega arith) in
          let d = get_d_part f (contact_place i) 39 32 (omega arith) in
          let m = contact-mode (part f (contact_place i) 39) in
          let x : get_or (migrated f) (contact_place i + 32) 0 ≡ get_or f (contact_place i + 32) 0 =
          sym a ∙ ap (λ (l : List ℕ). get_or l 32 0) (migrated-contact i h) ∙ m ∙ d
          in
          rw x
      by false e = refl

  channels-agree : AllBytes f → channels_rule (migrated f) ≡ legacy_channels_rule f
  unfolding channels_rule legacy_channels_rule index_ok
  channels-agree b =
      rw (channel_count-same (migrated f) f migrated-front, channel_place-same (migrated f) f migrated-front 0)
      (each_same (channel_at (migrated f)) (legacy_channel_at f) (channel_count f) 90 (channel_place f 0) step)
    where
      step : (i : ℕ) → i < channel_count f → channel_at (migrated f) (channel_place f 0 + i * 90) ≡ legacy_channel_at f (channel_place f 0 + i * 90)
      step i h =
          let s = part f (channel_place f i) 90 in
          rw (channel-walks f i, migrated-channel i h, channel-mode s, channel-named s)
          (rw (names-agree (get_or s 0 0) _)
          (channel-rule s (channel_place f i) _ (bytes-part f (channel_place f i) 90 b)))

  pub files-agree : (ed : Edition) → AllBytes f → file_rule ed (migrated f) ≡ legacy_file_rule ed f
  unfolding file_rule legacy_file_rule
  files-agree ed b =
      rw (
        migrated-length,
        header-same (migrated f) f migrated-front migrated-length,
        contacts-agree ed b,
        channels-agree b,
        offsets-same (migrated f) f migrated-front (offset_place f 0) migrated-length migrated-tail (omega arith),
        banks-same (migrated f) f migrated-front (offset_place f 0) migrated-length migrated-tail (omega arith),
      )

  -- ---- a file that is valid by both readings stays

  half-stays : (ed : Edition) → AllBytes f → file_rule ed f ≡ Valid → legacy_file_rule ed f ≡ Valid → half ≡ f
  unfolding legacy_file_rule legacy_contacts_rule
  half-stays ed b n l =
      let contacts = (then-valid _ _ (then-valid _ _ (then-valid _ _ l).1).1).0 in
      let at : (i : ℕ) → i < contact_count f → migrated_contact (part f (contact_place i) 39) ≡ part f (contact_place i) 39 =
      λ i h. contact-stays ed (part f (contact_place i) 39) (contact_place i) (contact_place 0 + i * 39) (bytes-part f (contact_place i) 39 b)
      (contact-there ed f i (file-valid ed f n).contacts h)
      (rw (← contact-walks i) (each-valid (legacy_contact_at ed f) (contact_count f) 39 (contact_place 0) contacts i h))
      in
      changed-stays migrated_contact 39 (contact_place 0) (contact_count f) f (λ i h. rw (contact-walks i) (at i h))

  pub migrated-stays : (ed : Edition) → AllBytes f → file_rule ed f ≡ Valid → legacy_file_rule ed f ≡ Valid → migrated f ≡ f
  unfolding migrated legacy_file_rule legacy_channels_rule
  migrated-stays ed b n l =
      let channels = (then-valid _ _ (then-valid _ _ (then-valid _ _ (then-valid _ _ l).1).1).1).0 in
      let at : (i : ℕ) → i < channel_count f → migrated_channel (part f (channel_place f i) 90) ≡ part f (channel_place f i) 90 =
      λ i h. channel-stays (part f (channel_place f i) 90) (channel_place f i) (channel_place f 0 + i * 90) (index_ok f (part f (channel_place f i) 90)) (index_ok f (part f (channel_place f i) 90)) (bytes-part f (channel_place f i) 90 b)
      (channel-there f i (file-valid ed f n).channels h)
      (rw (← channel-walks f i) (each-valid (legacy_channel_at f) (channel_count f) 90 (channel_place f 0) channels i h))
      in
      rw (half-stays ed b n l)
      (changed-stays migrated_channel 90 (channel_place f 0) (channel_count f) f (λ i h. rw (channel-walks f i) (at i h)))

-- ---- bytes stay bytes, and no two files become the same

half-bytes : (f : List ℕ) → AllBytes f → AllBytes (contacts_migrated f)
half-bytes f b = changed-bytes migrated_contact contact-bytes 39 (contact_place 0) (contact_count f) f b

pub migrated-bytes : (f : List ℕ) → AllBytes f → AllBytes (migrated f)
unfolding migrated
migrated-bytes f b =
    changed-bytes migrated_channel channel-bytes 90 (channel_place (half f) 0) (channel_count (half f)) (half f) (half-bytes f b)

pub migrated-one : (f g : List ℕ) → AllBytes f → AllBytes g → migrated f ≡ migrated g → f ≡ g
unfolding migrated
migrated-one f g a b e =
    let front : take 88 f ≡ take 88 g = sym (migrated-front f) ∙ ap (λ (l : List ℕ). take 88 l) e ∙ migrated-front g in
    let place : channel_place (half f) 0 ≡ channel_place (half g) 0 = half_place f ∙ channel_place-same f g front 0 ∙ sym (half_place g) in
    let count : channel_count (half f) ≡ channel_count (half g) = half_count f ∙ channel_count-same f g front ∙ sym (half_count g) in
    let halves : half f ≡ half g =
    changed-one migrated_channel channel-keeps channel-one 90 (channel_place (half g) 0) (channel_count (half g)) (half f) (half g) (half-bytes f a)
    (half-bytes g b) (rw (place, count) at e)
    in
    changed-one migrated_contact contact-keeps contact-one 39 (contact_place 0) (contact_count g) f g a b
    (rw (contact_count-same f g front) at halves)
