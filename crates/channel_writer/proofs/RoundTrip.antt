-- What is written reads back as what was given, what was read writes back as the bytes read, and a writer refuses exactly what no valid
-- record holds. Carried by where each field stands in the written bytes, and by the laws of bytes that hold one value or two.
-- Assumes nothing.
use Prim.Native.Nat.{ℕ, zero, suc, ◌+◌, ◌-◌, ◌^◌, ◌≤◌, ◌<◌}
use mathlib.Core.Path.{◌≡◌, refl, ap, sym, ◌∙◌}
use mathlib.Core.Bool.{Bool, true, false, ◌||◌, not, cond}
use mathlib.Core.List.{List, [], ◌∷◌, ◌++◌, append_assoc}
use mathlib.Core.Logic.{◌↔◌}
use native.Mathlib.Omega.{arith}
use lib.ListN.{length, take, drop, get_or}
use lib.Seq.{drop_at, drop-drop, get_or-drop}
use lib.Dec.{leb, eqb}
use lib.IntN.{ℤ, pos, negsuc}
use mir.Syntax.{w8}
use mir.Val.{SFits}
use borrow.Author.Tests.{leb-true, le-leb, eqb-true, eq-eqb, ne_eqb}
use Rattle.fields.specs.Bytes.{part, little_bytes, num}
use Rattle.text.specs.Text.{text_ok, given_ok, text_of, padded}
use Rattle.fields.proofs.Laws.{bytes-nil, bytes-cons, bytes-append, bytes-zeros, bytes-little_bytes}
use Rattle.fields.proofs.Laws.{AllBytes, Long, long-append, length_part, part_at, part-cons, part-add, little-little_bytes, little_bytes-num, num-lt}
use Rattle.text.proofs.Laws.{given_ok-length, given_ok-plain, plain_text-bytes, text_ok-padded, text_of-padded, given-text_of, padded-text_of}
use Rattle.bits.specs.Packed.{number_flag_of, number_flag_byte, number_flag_valid, nibbles_of, nibbles_byte, signed_of, signed_byte}
use Rattle.bits.proofs.Laws.{i8_range, i8_range-fits, fits-i8_range, signed_of-range, signed-returns, number-flag-returns, number-flag-ok, nibbles-returns, and_left, and_right, and_both}
use Rattle.bits.proofs.Laws.{number_flag_byte-lt, nibbles_byte-lt, signed_byte-lt, number_flag_byte-of, number_flag_valid-of, nibbles_byte-of, nibbles_valid-of, signed_byte-of}
use Rattle.tones.specs.Tone.{tone_byte}
use Rattle.tones.proofs.Laws.{tone-returns, tone_ok-byte, tone_byte-of, tone_valid-of, tone_byte-lt}
use Rattle.channel.specs.Values.{slot_ok, operation_ok, encryption_ok, traits_of, traits_number_flag, latitude_ok, is_ninety, fraction_ok, latitude_fraction_ok, contact_index_of, contact_index_number, mode_number}
use Rattle.channel.specs.Rule.{channel_rule}
use Rattle.channel_reader.specs.Reading.{location_of, common_of, fm_of, dmr_of, m17_of, info_of, channel_of}
use Rattle.channel_writer.specs.Writing.{info_write_rule, channel_write_rule, head_bytes, location_bytes, info_bytes, channel_bytes}
use Rattle.channel.specs.declared.Traits.{Traits}
use Rattle.channel.specs.declared.Common.{Common}
use Rattle.channel.specs.declared.FmInfo.{FmInfo}
use Rattle.channel.specs.declared.DmrInfo.{DmrInfo}
use Rattle.channel.specs.declared.M17Info.{M17Info}
use Rattle.channel.specs.declared.Info.{Info}
use Rattle.channel.specs.declared.Info.TheVariants.{Fm, Dmr, M17}
use Rattle.channel.specs.declared.Channel.{Channel}
use Rattle.channel.proofs.Laws.{ValidChannel, ValidFm, ValidDmr, ValidM17, channel-valid, valid-channel, valid-length, by_mode}
use Rattle.channel_writer.proofs.WriteLaws.{Writable, WritableHead, WritableLocation, WritableFm, WritableDmr, WritableM17, writable-by, rule-passes}
use Rattle.channel_writer.proofs.WriteLaws.{head-writable, location-writable, fm-writable, dmr-writable, m17-writable, use-nibbles}
use Rattle.channel_writer.proofs.WriteLaws.{head-passes, location-passes, fm-passes, dmr-passes, m17-passes}
use Rattle.channel_writer.proofs.WriteLaws.{long-head, long-padded, long-record}
use Rattle.std.specs.Prelude.{Some, None, Option}
use Rattle.fields.specs.Rule.{Valid}

-- ---- what is given beside the rules, which bound every other value

-- the contact index of an info as a number; an FM channel has none
abbrev pub contact_number : Info → ℕ
contact_number (Fm i) = 65535
contact_number (Dmr i) = contact_index_number i.contact
contact_number (M17 i) = contact_index_number i.contact

-- a contact index in its one form: 65,535 is nobody, and no index
unfoldable pub contact_proper : Option ℕ → Bool
contact_proper None = true
contact_proper (Some x) = not (eqb x 65535)

abbrev pub info_proper : Info → Bool
info_proper (Fm i) = true
info_proper (Dmr i) = contact_proper i.contact
info_proper (M17 i) = contact_proper i.contact

-- the ranges that the Rust types give, and a contact index in its form
pub record Ranges (common : Common) (info : Info) : Type 0 where
  pub power-u8 : common.power < 256
  pub receive-u32 : common.receive_hz < 2 ^ 32
  pub transmit-u32 : common.transmit_hz < 2 ^ 32
  pub longitude-i8 : SFits w8 common.location.longitude
  pub altitude-u16 : common.location.altitude_plus_500 < 2 ^ 16
  pub contact-u16 : contact_number info < 2 ^ 16
  pub contact-proper : info_proper info ≡ true

-- ---- single values

latitude-range : (z : ℤ) → latitude_ok z ≡ true → i8_range z
unfolding latitude_ok
latitude-range (pos n) h = omega (arith, leb-true n 90 h)
latitude-range (negsuc n) h = omega (arith, leb-true n 89 h)

fraction-lt : (x : ℕ) → fraction_ok x ≡ true → x < 65536
unfolding fraction_ok
fraction-lt x h = omega (arith, leb-true x 9999 h)

latitude-fraction-lt : (z : ℤ) (x : ℕ) → latitude_fraction_ok z x ≡ true → x < 65536
unfolding latitude_fraction_ok
latitude-fraction-lt z x h = fraction-lt x (and_left (fraction_ok x) (not (is_ninety z) || eqb x 0) h)

traits-returns : (t : Traits) → number_flag_valid (traits_number_flag t) ≡ true → traits_of (number_flag_byte (traits_number_flag t)) ≡ t
unfolding traits_of traits_number_flag
traits-returns t h = rw (number-flag-returns (traits_number_flag t) h)

contact-returns : (c : (Option ℕ)) → contact_proper c ≡ true → contact_index_of (contact_index_number c) ≡ c
unfolding contact_index_of contact_index_number contact_proper
contact-returns None h = refl
contact-returns (Some x) h = at (eqb x 65535) h
  where
    at : (t : Bool) → not t ≡ true → cond t None (Some x) ≡ Some x
    at true e = ap (λ (b : Bool). cond b (Some x) None) e
    at false e = refl

-- ---- where each field stands in the written bytes

module _ (name description : List ℕ) (common : Common) (info : Info) where
  -- what stands behind the texts
  abbrev behind : List ℕ
  behind = location_bytes common.location ++ info_bytes info

  abbrev bytes : List ℕ
  bytes = channel_bytes name description common info

  module _ (g : Writable name description common info) where
    long-name : Long (padded name) 32
    long-name = long-padded name (given_ok-length name g.text)

    long-description : Long (padded description) 32
    long-description = long-padded description (given_ok-length description g.second)

    at_name : part bytes 13 32 ≡ padded name
    unfolding channel_bytes
    at_name =
        part_at (head_bytes (mode_number info) common) (padded name) (padded description ++ behind) 13 32
        (long-head (mode_number info) common).long
        long-name.long

    at-description : part bytes 45 32 ≡ padded description
    unfolding channel_bytes
    at-description =
        let h = head_bytes (mode_number info) common in
        rw (← append_assoc h (padded name) (padded description ++ behind))
        (part_at (h ++ padded name) (padded description) behind 45 32
        (long-append (long-head (mode_number info) common) long-name).long
        long-description.long)

    drop-texts : drop 77 bytes ≡ behind
    unfolding channel_bytes
    drop-texts =
        let h = head_bytes (mode_number info) common in
        rw (
          ← append_assoc h (padded name) (padded description ++ behind),
          ← append_assoc (h ++ padded name) (padded description) behind,
        )
        (drop_at ((h ++ padded name) ++ padded description) behind 77
        (long-append (long-append (long-head (mode_number info) common) long-name) long-description).long)

    at_byte : (k : ℕ) → get_or bytes (77 + k) 0 ≡ get_or behind k 0
    at_byte k = sym (get_or-drop 77 bytes k 0) ∙ rw drop-texts

    at-num : (k n : ℕ) → num bytes (77 + k) n ≡ num behind k n
    at-num k n = rw (← drop-drop k 77 bytes, drop-texts)

    at-mode : get_or bytes 0 0 ≡ mode_number info
    unfolding channel_bytes head_bytes little_bytes
    at-mode = refl

    at-traits : get_or bytes 1 0 ≡ number_flag_byte (traits_number_flag common.traits)
    unfolding channel_bytes head_bytes little_bytes
    at-traits = refl

    at-power : get_or bytes 2 0 ≡ common.power
    unfolding channel_bytes head_bytes little_bytes
    at-power = refl

    at-scan : get_or bytes 11 0 ≡ common.scan_list
    unfolding channel_bytes head_bytes little_bytes
    at-scan = refl

    at-group : get_or bytes 12 0 ≡ common.group_list
    unfolding channel_bytes head_bytes little_bytes
    at-group = refl

    at-latitude : get_or bytes 77 0 ≡ signed_byte common.location.latitude
    unfolding location_bytes little_bytes
    at-latitude = at_byte 0

    at-longitude : get_or bytes 80 0 ≡ signed_byte common.location.longitude
    unfolding location_bytes little_bytes
    at-longitude = at_byte 3

    place : WritableLocation common.location
    place = location-writable common.location g.place

    at-latitude-e4 : num bytes 78 2 ≡ common.location.latitude_e4
    unfolding location_bytes little_bytes
    at-latitude-e4 = at-num 1 2 ∙ little-little_bytes 2 _ (latitude-fraction-lt _ _ place.above)

    at-longitude-e4 : num bytes 81 2 ≡ common.location.longitude_e4
    unfolding location_bytes little_bytes
    at-longitude-e4 = at-num 4 2 ∙ little-little_bytes 2 _ (fraction-lt _ place.beyond)

    module _ (r : Ranges common info) where
      at-receive : num bytes 3 4 ≡ common.receive_hz
      unfolding channel_bytes head_bytes little_bytes
      at-receive = little-little_bytes 4 _ r.receive-u32

      at-transmit : num bytes 7 4 ≡ common.transmit_hz
      unfolding channel_bytes head_bytes little_bytes
      at-transmit = little-little_bytes 4 _ r.transmit-u32

      at-altitude : num bytes 83 2 ≡ common.location.altitude_plus_500
      unfolding location_bytes little_bytes
      at-altitude = at-num 6 2 ∙ little-little_bytes 2 _ r.altitude-u16

      latitude-is : signed_of (get_or bytes 77 0) ≡ common.location.latitude
      latitude-is = rw at-latitude (signed-returns _ (latitude-range _ place.floor))

      longitude-is : signed_of (get_or bytes 80 0) ≡ common.location.longitude
      longitude-is = rw at-longitude (signed-returns _ (i8_range-fits _ r.longitude-i8))

      traits-is : traits_of (get_or bytes 1 0) ≡ common.traits
      traits-is = rw at-traits (traits-returns common.traits (head-writable common g.head).traits)

      common-is : common_of bytes ≡ common
      unfolding common_of location_of
      common-is =
          rw (
            traits-is,
            at-power,
            at-receive,
            at-transmit,
            at-scan,
            at-group,
            latitude-is,
            at-latitude-e4,
            longitude-is,
            at-longitude-e4,
            at-altitude,
          )

-- ---- the info by its bytes

flag-returns : (b : Bool) → eqb (cond b 1 0) 1 ≡ b
flag-returns true = refl
flag-returns false = refl

flag-low : (b : Bool) → cond b 1 0 ≤ 1
flag-low true = omega arith
flag-low false = omega arith

-- what the bytes s hold of each kind of info
record HoldsFm (s : List ℕ) (i : FmInfo) : Type 0 where
  mode : get_or s 0 0 ≡ 0
  receive : get_or s 85 0 ≡ tone_byte i.receive
  transmit : get_or s 86 0 ≡ tone_byte i.transmit
  pad : get_or s 87 0 ≡ 0
  second : get_or s 88 0 ≡ 0
  third : get_or s 89 0 ≡ 0

record HoldsDmr (s : List ℕ) (i : DmrInfo) : Type 0 where
  mode : get_or s 0 0 ≡ 1
  colours : get_or s 85 0 ≡ nibbles_byte i.colours
  slot : get_or s 86 0 ≡ i.slot
  contact : num s 87 2 ≡ contact_index_number i.contact
  pad : get_or s 89 0 ≡ 0

record HoldsM17 (s : List ℕ) (i : M17Info) : Type 0 where
  mode : get_or s 0 0 ≡ 2
  access : get_or s 85 0 ≡ nibbles_byte i.access
  use-of : get_or s 86 0 ≡ nibbles_byte (record { high = i.operation; low = i.encryption })
  position : get_or s 87 0 ≡ cond i.position 1 0
  contact : num s 88 2 ≡ contact_index_number i.contact

module _ {s : List ℕ} {i : FmInfo} (h : HoldsFm s i) (g : WritableFm i) where
  fm-is : info_of s ≡ Fm i
  unfolding info_of fm_of
  fm-is = rw (h.mode, h.receive, h.transmit, tone-returns _ g.first, tone-returns _ g.second)

  fm-rule : ValidFm s
  fm-rule =
      record {
        receive = rw h.receive (tone_ok-byte _ g.first);
        transmit = rw h.transmit (tone_ok-byte _ g.second);
        pad = h.pad;
        second = h.second;
        third = h.third;
      }

module _ {s : List ℕ} {i : DmrInfo} (h : HoldsDmr s i) (g : WritableDmr i) where
  dmr-is : contact_proper i.contact ≡ true → info_of s ≡ Dmr i
  unfolding info_of dmr_of
  dmr-is p = rw (h.mode, h.colours, h.slot, h.contact, nibbles-returns _ g.nibbles, contact-returns _ p)

  dmr-rule : ValidDmr s
  dmr-rule = record { slot = rw h.slot g.timeslot; pad = h.pad }

module _ {s : List ℕ} {i : M17Info} (h : HoldsM17 s i) (g : WritableM17 i) where
  use-is : nibbles_of (get_or s 86 0) ≡ record { high = i.operation; low = i.encryption }
  use-is = rw h.use-of (nibbles-returns _ (use-nibbles i g))

  m17-is : contact_proper i.contact ≡ true → info_of s ≡ M17 i
  unfolding info_of m17_of
  m17-is p =
      rw (
        h.mode,
        h.access,
        use-is,
        h.position,
        h.contact,
        nibbles-returns _ g.nibbles,
        flag-returns i.position,
        contact-returns _ p,
      )

  m17-rule : ValidM17 s
  m17-rule =
      record {
        operation = rw use-is (and_left _ (encryption_ok i.encryption) g.use-of);
        encryption = rw use-is (and_right (operation_ok i.operation) _ g.use-of);
        position = rw h.position (flag-low i.position);
      }

-- ---- the info of the written bytes

module _ (name description : List ℕ) (common : Common) where
  holds-fm : (i : FmInfo) → Writable name description common (Fm i) → HoldsFm (channel_bytes name description common (Fm i)) i
  unfolding mode_number location_bytes info_bytes little_bytes
  holds-fm i g =
      record {
        mode = at-mode name description common (Fm i) g;
        receive = at_byte name description common (Fm i) g 8;
        transmit = at_byte name description common (Fm i) g 9;
        pad = at_byte name description common (Fm i) g 10;
        second = at_byte name description common (Fm i) g 11;
        third = at_byte name description common (Fm i) g 12;
      }

  holds-dmr : (i : DmrInfo) → Writable name description common (Dmr i) → Ranges common (Dmr i)
      → HoldsDmr (channel_bytes name description common (Dmr i)) i
  unfolding mode_number location_bytes info_bytes little_bytes
  holds-dmr i g r =
      record {
        mode = at-mode name description common (Dmr i) g;
        colours = at_byte name description common (Dmr i) g 8;
        slot = at_byte name description common (Dmr i) g 9;
        contact = at-num name description common (Dmr i) g 10 2 ∙ little-little_bytes 2 _ r.contact-u16;
        pad = at_byte name description common (Dmr i) g 12;
      }

  holds-m17 : (i : M17Info) → Writable name description common (M17 i) → Ranges common (M17 i)
      → HoldsM17 (channel_bytes name description common (M17 i)) i
  unfolding mode_number location_bytes info_bytes little_bytes
  holds-m17 i g r =
      record {
        mode = at-mode name description common (M17 i) g;
        access = at_byte name description common (M17 i) g 8;
        use-of = at_byte name description common (M17 i) g 9;
        position = at_byte name description common (M17 i) g 10;
        contact = at-num name description common (M17 i) g 11 2 ∙ little-little_bytes 2 _ r.contact-u16;
      }

  info-is : (info : Info) → Writable name description common info → Ranges common info → info_of (channel_bytes name description common info) ≡ info
  info-is (Fm i) g r = fm-is (holds-fm i g) (fm-writable i g.rest)
  info-is (Dmr i) g r = dmr-is (holds-dmr i g r) (dmr-writable i g.rest) r.contact-proper
  info-is (M17 i) g r = m17-is (holds-m17 i g r) (m17-writable i g.rest) r.contact-proper

  -- the rule of the mode that the bytes have; the other modes they have not
  fm-part : (info : Info) → Writable name description common info → mode_number info ≡ 0 → ValidFm (channel_bytes name description common info)
  unfolding mode_number
  fm-part (Fm i) g e = fm-rule (holds-fm i g) (fm-writable i g.rest)
  fm-part (Dmr i) g e = absurd (omega arith)
  fm-part (M17 i) g e = absurd (omega arith)

  dmr-part : (info : Info) → Writable name description common info → Ranges common info → mode_number info ≡ 1
      → ValidDmr (channel_bytes name description common info)
  unfolding mode_number
  dmr-part (Fm i) g r e = absurd (omega arith)
  dmr-part (Dmr i) g r e = dmr-rule (holds-dmr i g r) (dmr-writable i g.rest)
  dmr-part (M17 i) g r e = absurd (omega arith)

  m17-part : (info : Info) → Writable name description common info → Ranges common info → mode_number info ≡ 2
      → ValidM17 (channel_bytes name description common info)
  unfolding mode_number
  m17-part (Fm i) g r e = absurd (omega arith)
  m17-part (Dmr i) g r e = absurd (omega arith)
  m17-part (M17 i) g r e = m17-rule (holds-m17 i g r) (m17-writable i g.rest)

mode-low : (info : Info) → mode_number info ≤ 2
unfolding mode_number
mode-low (Fm i) = omega arith
mode-low (Dmr i) = omega arith
mode-low (M17 i) = omega arith

-- ---- write, then read

module _ (name description : List ℕ) (common : Common) (info : Info) where
  valid-bytes : Writable name description common info → Ranges common info → ValidChannel (channel_bytes name description common info)
  valid-bytes g r =
      let h = head-writable common g.head in
      let l = location-writable common.location g.place in
      let m = at-mode name description common info g in
      record {
        mode = rw m (mode-low info);
        traits = rw (at-traits name description common info g) (number-flag-ok _ h.traits);
        scan = rw (at-scan name description common info g) (leb-true _ _ h.scan);
        group = rw (at-group name description common info g) (leb-true _ _ h.group);
        name = rw (at_name name description common info g) (text_ok-padded name g.text);
        description = rw (at-description name description common info g) (text_ok-padded description g.second);
        latitude = rw (latitude-is name description common info g r) l.floor;
        latitude-fraction = rw (latitude-is name description common info g r, at-latitude-e4 name description common info g) l.above;
        longitude-fraction = rw (at-longitude-e4 name description common info g) l.beyond;
        fm = λ e. fm-part name description common info g (sym m ∙ e);
        dmr = λ e. dmr-part name description common info g r (sym m ∙ e);
        m17 = λ e. m17-part name description common info g r (sym m ∙ e);
      }

  -- (1) a channel has 90 bytes
  pub length-channel_bytes : channel_write_rule 90 name description common info ≡ Valid → length (channel_bytes name description common info) ≡ 90
  length-channel_bytes h = (long-record name description common info (writable-by 90 name description common info h)).long

  -- (2) what a writer takes reads back as what was given, wherever the record stands
  pub written-reads : (base : ℕ) → Ranges common info → channel_write_rule 90 name description common info ≡ Valid
      → (channel_rule (channel_bytes name description common info) base true ≡ Valid)
      × (channel_of (channel_bytes name description common info)
      ≡ record { name = padded name; description = padded description; common = common; info = info })
  unfolding channel_of
  written-reads base r h =
      let g = writable-by 90 name description common info h in (
        channel-valid _ base true (valid-bytes g r) (omega (arith, length-channel_bytes h)) refl,
        rw (
          at_name name description common info g,
          at-description name description common info g,
          common-is name description common info g r,
          info-is name description common info g r,
        ),
      )

-- ---- bytes as parts of a record

-- a is the n bytes of s at k
record Is (s a : List ℕ) (k n : ℕ) : Type 0 where
  is : a ≡ part s k n

is_none : (s : List ℕ) (k : ℕ) → Is s [] k 0
is_none s k = record { is = refl }

is-cons : (s : List ℕ) (k : ℕ) {n : ℕ} (x : ℕ) {a : List ℕ} → k < length s → x ≡ get_or s k 0 → Is s a (suc k) n → Is s (x ∷ a) k (suc n)
is-cons s k {n} x h e r = record { is = rw (e, r.is) (sym (part-cons s k n h)) }

is-append : {s a b : List ℕ} {k m n : ℕ} → Is s a k m → Is s b (k + m) n → Is s (a ++ b) k (m + n)
is-append {s} {a} {b} {k} {m} {n} p q = record { is = rw (p.is, q.is) (sym (part-add s k m n)) }

is-num : (s : List ℕ) (k n x : ℕ) → AllBytes s → k + n ≤ length s → x ≡ num s k n → Is s (little_bytes n x) k n
is-num s k n x b h e = record { is = rw e (little_bytes-num s k n b h) }

contact_number-of : (x : ℕ) → contact_index_number (contact_index_of x) ≡ x
unfolding contact_index_number contact_index_of
contact_number-of x = at (eqb x 65535) refl
  where
    at : (t : Bool) → eqb x 65535 ≡ t → contact_index_number (cond t None (Some x)) ≡ x
    at true e = sym (eqb-true x 65535 e)
    at false e = refl

contact_proper-of : (x : ℕ) → contact_proper (contact_index_of x) ≡ true
unfolding contact_proper contact_index_of
contact_proper-of x = at (eqb x 65535) refl
  where
    at : (t : Bool) → eqb x 65535 ≡ t → contact_proper (cond t None (Some x)) ≡ true
    at true e = refl
    at false e = rw e

flag-of : (x : ℕ) → x ≤ 1 → cond (eqb x 1) 1 0 ≡ x
flag-of zero h = refl
flag-of (suc zero) h = refl
flag-of (suc (suc x)) h = absurd (omega arith)

number-flag-of-traits : (b : ℕ) → traits_number_flag (traits_of b) ≡ number_flag_of b
unfolding traits_number_flag traits_of
number-flag-of-traits b = refl

-- ---- read, then write

module _ (s : List ℕ) where
  info-is-fm : get_or s 0 0 ≡ 0 → info_of s ≡ Fm (fm_of s)
  unfolding info_of
  info-is-fm e = rw (eq-eqb (get_or s 0 0) 0 e)

  info-is-dmr : get_or s 0 0 ≡ 1 → info_of s ≡ Dmr (dmr_of s)
  unfolding info_of
  info-is-dmr e = rw (ne_eqb (get_or s 0 0) 0 (omega arith), eq-eqb (get_or s 0 0) 1 e)

  info-is-m17 : get_or s 0 0 ≡ 2 → info_of s ≡ M17 (m17_of s)
  unfolding info_of
  info-is-m17 e = rw (ne_eqb (get_or s 0 0) 0 (omega arith), ne_eqb (get_or s 0 0) 1 (omega arith))

  module _ (b : AllBytes s) (l : 90 ≤ length s) (g : ValidChannel s) where
    mode-is : mode_number (info_of s) ≡ get_or s 0 0
    unfolding mode_number
    mode-is =
        by_mode (mode_number (info_of s) ≡ get_or s 0 0) (get_or s 0 0)
        (λ e. rw (info-is-fm e) (sym e))
        (λ e. rw (info-is-dmr e) (sym e))
        (λ e. let m : get_or s 0 0 ≡ 2 = omega (arith, g.mode) in rw (info-is-m17 m) (sym m))

    head-back : Is s (head_bytes (mode_number (info_of s)) (common_of s)) 0 13
    unfolding head_bytes common_of
    head-back =
        is-cons s 0 _ (omega arith) mode-is
        (is-cons s 1 _ (omega arith) (rw (number-flag-of-traits (get_or s 1 0)) (number_flag_byte-of (get_or s 1 0) g.traits (b 1)))
        (is-cons s 2 _ (omega arith) refl
        (is-append (is-num s 3 4 _ b (omega arith) refl)
        (is-append (is-num s 7 4 _ b (omega arith) refl)
        (is-cons s 11 _ (omega arith) refl (is-cons s 12 _ (omega arith) refl (is_none s 13)))))))

    location-back : Is s (location_bytes (location_of s)) 77 8
    unfolding location_bytes location_of
    location-back =
        is-cons s 77 _ (omega arith) (signed_byte-of _ (b 77))
        (is-append (is-num s 78 2 _ b (omega arith) refl)
        (is-cons s 80 _ (omega arith) (signed_byte-of _ (b 80))
        (is-append (is-num s 81 2 _ b (omega arith) refl) (is-num s 83 2 _ b (omega arith) refl))))

    fm-back : ValidFm s → Is s (info_bytes (Fm (fm_of s))) 85 5
    unfolding info_bytes fm_of
    fm-back f =
        is-cons s 85 _ (omega arith) (tone_byte-of _ (b 85))
        (is-cons s 86 _ (omega arith) (tone_byte-of _ (b 86))
        (is-cons s 87 _ (omega arith) (sym f.pad)
        (is-cons s 88 _ (omega arith) (sym f.second)
        (is-cons s 89 _ (omega arith) (sym f.third) (is_none s 90)))))

    dmr-back : ValidDmr s → Is s (info_bytes (Dmr (dmr_of s))) 85 5
    unfolding info_bytes dmr_of
    dmr-back f =
        is-cons s 85 _ (omega arith) (nibbles_byte-of _ (b 85))
        (is-cons s 86 _ (omega arith) refl
        (is-append (is-num s 87 2 _ b (omega arith) (contact_number-of _))
        (is-cons s 89 _ (omega arith) (sym f.pad) (is_none s 90))))

    m17-back : ValidM17 s → Is s (info_bytes (M17 (m17_of s))) 85 5
    unfolding info_bytes m17_of
    m17-back f =
        is-cons s 85 _ (omega arith) (nibbles_byte-of _ (b 85))
        (is-cons s 86 _ (omega arith) (nibbles_byte-of _ (b 86))
        (is-cons s 87 _ (omega arith) (flag-of _ f.position)
        (is-num s 88 2 _ b (omega arith) (contact_number-of _))))

    info-back : Is s (info_bytes (info_of s)) 85 5
    info-back =
        by_mode (Is s (info_bytes (info_of s)) 85 5) (get_or s 0 0)
        (λ e. rw (info-is-fm e) (fm-back (g.fm e)))
        (λ e. rw (info-is-dmr e) (dmr-back (g.dmr e)))
        (λ e. let m : get_or s 0 0 ≡ 2 = omega (arith, g.mode) in rw (info-is-m17 m) (m17-back (g.m17 m)))

    text-back : (k : ℕ) → k + 32 ≤ length s → text_ok (part s k 32) ≡ true → Is s (padded (text_of (part s k 32))) k 32
    text-back k h t = record { is = padded-text_of (part s k 32) t (length_part s k 32 h) }

    channel-back : Is s (channel_bytes (text_of (part s 13 32)) (text_of (part s 45 32)) (common_of s) (info_of s)) 0 90
    unfolding channel_bytes common_of
    channel-back =
        is-append head-back
        (is-append (text-back 13 (omega arith) g.name)
        (is-append (text-back 45 (omega arith) g.description) (is-append location-back info-back)))

    validate-head : WritableHead (common_of s)
    unfolding common_of
    validate-head =
        record {
          traits = rw (number-flag-of-traits (get_or s 1 0)) (number_flag_valid-of (get_or s 1 0) g.traits);
          scan = le-leb _ _ g.scan;
          group = le-leb _ _ g.group;
        }

    validate-location : WritableLocation (common_of s).location
    unfolding common_of location_of
    validate-location = record { floor = g.latitude; above = g.latitude-fraction; beyond = g.longitude-fraction }

    validate-fm : ValidFm s → WritableFm (fm_of s)
    unfolding fm_of
    validate-fm f = record { first = tone_valid-of _ f.receive; second = tone_valid-of _ f.transmit }

    validate-dmr : ValidDmr s → WritableDmr (dmr_of s)
    unfolding dmr_of
    validate-dmr f = record { nibbles = nibbles_valid-of _ (b 85); timeslot = f.slot }

    validate-m17 : ValidM17 s → WritableM17 (m17_of s)
    unfolding m17_of
    validate-m17 f = record { nibbles = nibbles_valid-of _ (b 85); use-of = and_both _ _ f.operation f.encryption }

    validate-info : info_write_rule (info_of s) ≡ Valid
    validate-info =
        by_mode (info_write_rule (info_of s) ≡ Valid) (get_or s 0 0)
        (λ e. rw (info-is-fm e) (fm-passes _ (validate-fm (g.fm e))))
        (λ e. rw (info-is-dmr e) (dmr-passes _ (validate-dmr (g.dmr e))))
        (λ e. let m : get_or s 0 0 ≡ 2 = omega (arith, g.mode) in rw (info-is-m17 m) (m17-passes _ (validate-m17 (g.m17 m))))

    given_back : Writable (text_of (part s 13 32)) (text_of (part s 45 32)) (common_of s) (info_of s)
    given_back =
        record {
          head = head-passes _ validate-head;
          text = given-text_of _ g.name (length_part s 13 32 (omega arith));
          second = given-text_of _ g.description (length_part s 45 32 (omega arith));
          place = location-passes _ validate-location;
          rest = validate-info;
        }

-- (3) what reading finds valid writes back as the bytes that were read, and no writer refuses it
pub read-writes : (s : List ℕ) (base : ℕ) (named : Bool) → AllBytes s → channel_rule s base named ≡ Valid
    → (channel_bytes (text_of (channel_of s).name) (text_of (channel_of s).description) (channel_of s).common (channel_of s).info ≡ take 90 s)
    × (channel_write_rule 90 (text_of (channel_of s).name) (text_of (channel_of s).description) (channel_of s).common (channel_of s).info ≡ Valid)
unfolding channel_of
read-writes s base named b h =
    let l = valid-length s base named h in
    let g = valid-channel s base named h in
    ((channel-back s b l g).is, rule-passes 90 _ _ _ _ (omega arith) (given_back s b l g))

-- and its values are in the ranges that the Rust types give
pub read-ranges : (s : List ℕ) (base : ℕ) (named : Bool) → AllBytes s → channel_rule s base named ≡ Valid
    → Ranges (channel_of s).common (channel_of s).info
unfolding channel_of common_of location_of dmr_of m17_of
read-ranges s base named b h =
    let g = valid-channel s base named h in
    record {
      power-u8 = b 2;
      receive-u32 = num-lt s 3 4 b;
      transmit-u32 = num-lt s 7 4 b;
      longitude-i8 = fits-i8_range _ (signed_of-range _ (b 80));
      altitude-u16 = num-lt s 83 2 b;
      contact-u16 =
          by_mode (contact_number (info_of s) < 2 ^ 16) (get_or s 0 0)
          (λ e. rw (info-is-fm s e) (omega arith))
          (λ e. rw (info-is-dmr s e, contact_number-of (num s 87 2)) (num-lt s 87 2 b))
          (λ e. let m : get_or s 0 0 ≡ 2 = omega (arith, g.mode) in rw (info-is-m17 s m, contact_number-of (num s 88 2)) (num-lt s 88 2 b));
      contact-proper =
          by_mode (info_proper (info_of s) ≡ true) (get_or s 0 0)
          (λ e. rw (info-is-fm s e))
          (λ e. rw (info-is-dmr s e) (contact_proper-of (num s 87 2)))
          (λ e. let m : get_or s 0 0 ≡ 2 = omega (arith, g.mode) in rw (info-is-m17 s m) (contact_proper-of (num s 88 2)));
    }

-- ---- what a writer refuses

-- every element of a is a byte, as a record, from which antt finds a
record Bytes (a : List ℕ) : Type 0 where
  all : AllBytes a

nil-bytes : Bytes []
nil-bytes = record { all = bytes-nil }

cons-bytes : {x : ℕ} {a : List ℕ} → x < 256 → Bytes a → Bytes (x ∷ a)
cons-bytes {x} {a} h r = record { all = bytes-cons x a h r.all }

append-bytes : {a b : List ℕ} → Bytes a → Bytes b → Bytes (a ++ b)
append-bytes {a} {b} p q = record { all = bytes-append a b p.all q.all }

little-bytes : (n x : ℕ) → Bytes (little_bytes n x)
little-bytes n x = record { all = bytes-little_bytes n x }

text-bytes : (v : List ℕ) → given_ok v ≡ true → Bytes (padded v)
unfolding padded
text-bytes v h =
    let t : Bytes v = record { all = plain_text-bytes v (given_ok-plain v h) } in
    append-bytes t (record { all = bytes-zeros (32 - length v) })

head_bytes_lem : (mode : ℕ) (common : Common) (info : Info) → mode ≤ 2 → WritableHead common → Ranges common info → Bytes (head_bytes mode common)
unfolding head_bytes
head_bytes_lem mode common info m g r =
    let a : mode < 256 = omega arith in
    let b : common.scan_list < 256 = omega (arith, leb-true common.scan_list 250 g.scan) in
    let c : common.group_list < 256 = omega (arith, leb-true common.group_list 128 g.group) in
    cons-bytes a
    (cons-bytes (number_flag_byte-lt _ g.traits)
    (cons-bytes r.power-u8
    (append-bytes (little-bytes 4 _) (append-bytes (little-bytes 4 _) (cons-bytes b (cons-bytes c nil-bytes))))))

location-bytes : (common : Common) (info : Info) → WritableLocation common.location → Ranges common info → Bytes (location_bytes common.location)
unfolding location_bytes
location-bytes common info g r =
    cons-bytes (signed_byte-lt _ (latitude-range _ g.floor))
    (append-bytes (little-bytes 2 _)
    (cons-bytes (signed_byte-lt _ (i8_range-fits _ r.longitude-i8)) (append-bytes (little-bytes 2 _) (little-bytes 2 _))))

slot_lt : (x : ℕ) → slot_ok x ≡ true → x < 256
unfolding slot_ok
slot_lt x h = omega (arith, leb-true x 2 (and_right (leb 1 x) _ h))

flag-lt : (b : Bool) → cond b 1 0 < 256
flag-lt b = omega (arith, flag-low b)

info-bytes : (info : Info) → info_write_rule info ≡ Valid → Bytes (info_bytes info)
unfolding info_bytes
info-bytes (Fm i) h =
    let g = fm-writable i h in
    let z : 0 < 256 = omega arith in
    cons-bytes (tone_byte-lt _ g.first) (cons-bytes (tone_byte-lt _ g.second) (cons-bytes z (cons-bytes z (cons-bytes z nil-bytes))))
info-bytes (Dmr i) h =
    let g = dmr-writable i h in
    let z : 0 < 256 = omega arith in
    cons-bytes (nibbles_byte-lt _ g.nibbles)
    (cons-bytes (slot_lt _ g.timeslot) (append-bytes (little-bytes 2 _) (cons-bytes z nil-bytes)))
info-bytes (M17 i) h =
    let g = m17-writable i h in
    cons-bytes (nibbles_byte-lt _ g.nibbles)
    (cons-bytes (nibbles_byte-lt _ (use-nibbles i g)) (cons-bytes (flag-lt i.position) (little-bytes 2 _)))

-- s is a record's bytes that read as these values
pub record Reads (s name description : List ℕ) (common : Common) (info : Info) : Type 0 where
  pub bytes-are : AllBytes s
  pub rule-is : channel_rule s 0 true ≡ Valid
  pub name-is : text_of (channel_of s).name ≡ name
  pub description-is : text_of (channel_of s).description ≡ description
  pub common-is : (channel_of s).common ≡ common
  pub info-is : (channel_of s).info ≡ info

module _ (name description : List ℕ) (common : Common) (info : Info) where
  pub bytes-channel_bytes : Ranges common info → channel_write_rule 90 name description common info ≡ Valid
      → AllBytes (channel_bytes name description common info)
  unfolding channel_bytes
  bytes-channel_bytes r h =
      let g = writable-by 90 name description common info h in
      (append-bytes (head_bytes_lem (mode_number info) common info (mode-low info) (head-writable common g.head) r)
      (append-bytes (text-bytes name g.text)
      (append-bytes (text-bytes description g.second)
      (append-bytes (location-bytes common info (location-writable common.location g.place) r) (info-bytes info g.rest))))
      ).all

  -- (4) what a writer takes, some valid record holds
  pub given-held : Ranges common info → channel_write_rule 90 name description common info ≡ Valid
      → (s : List ℕ) × Reads s name description common info
  given-held r h =
      let w = written-reads name description common info 0 r h in
      let g = writable-by 90 name description common info h in (
        channel_bytes name description common info,
        record {
          bytes-are = bytes-channel_bytes r h;
          rule-is = w.0;
          name-is = ap (λ (c : Channel). text_of c.name) w.1 ∙ text_of-padded name g.text;
          description-is = ap (λ (c : Channel). text_of c.description) w.1 ∙ text_of-padded description g.second;
          common-is = ap (λ (c : Channel). c.common) w.1;
          info-is = ap (λ (c : Channel). c.info) w.1;
        },
      )

  -- what a valid record holds, a writer takes
  pub held-given : ((s : List ℕ) × Reads s name description common info) → channel_write_rule 90 name description common info ≡ Valid
  held-given (s, r) =
      let h = (read-writes s 0 true r.bytes-are r.rule-is).1 in
      rw (r.name-is, r.description-is, r.common-is, r.info-is) at h

  -- so a writer refuses exactly the values that no valid record holds
  pub given-exactly : Ranges common info
      → (channel_write_rule 90 name description common info ≡ Valid) ↔ ((s : List ℕ) × Reads s name description common info)
  given-exactly r = (given-held r, held-given)
