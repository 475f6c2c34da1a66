-- Laws of channel records: single values, and what a valid record's fields are.
use Prim.Native.Nat.{ℕ, zero, suc, ◌+◌, ◌-◌, ◌≤◌, ◌<◌}
use mathlib.Core.Path.{◌≡◌, refl, sym, ◌∙◌}
use mathlib.Core.Bool.{Bool, true, false, ◌&&◌, cond}
use mathlib.Core.List.{List}
use native.Mathlib.Omega.{arith}
use lib.ListN.{length, get_or}
use lib.Dec.{leb, ltb, eqb}
use borrow.Author.Tests.{ltb-true, ltb-false, le-leb, lt-leb, eq-eqb, ne_eqb, leb-true, leb-false, eqb-true}
use Rattle.fields.specs.Bytes.{part, num}
use Rattle.text.specs.Text.{text_ok}
use Rattle.fields.specs.Rule.{◌then◌, field_of, field, Validity, Valid}
use Rattle.fields.proofs.Laws.{then-valid, both-valid, field-valid, field-passes, field_cut}
use Rattle.bits.specs.Packed.{signed_of, number_flag_ok, nibbles_of}
use Rattle.bits.proofs.Laws.{signed_of-low, signed_of-high, and_left, and_right, and_both}
use Rattle.tones.specs.Tone.{tone_ok}
use Rattle.channel.specs.Values.{mode_ok, latitude_ok, is_ninety, fraction_ok, latitude_fraction_ok, slot_ok, operation_ok, encryption_ok, contact_index_of}
use Rattle.channel.specs.Rule.{head_rule, texts_rule, location_rule, fm_rule, dmr_rule, m17_rule, info_rule, channel_rule_by, channel_rule, named_contact}
use Rattle.std.specs.Prelude.{Ok, Err, None, Option}
use Rattle.format.specs.declared.refusals.Reason.TheVariants as reason
use Rattle.format.specs.declared.refusals.Reason.{Reason}

-- ---- a latitude by its byte

pub latitude-up : (b : ℕ) → b ≤ 90 → latitude_ok (signed_of b) ≡ true
unfolding latitude_ok
latitude-up b h = rw (signed_of-low b (omega arith)) (le-leb b 90 h)

pub latitude-down : (b : ℕ) → 90 < b → latitude_ok (signed_of b) ≡ leb 166 b
unfolding latitude_ok
latitude-down b h = half (ltb b 128) refl
  where
    below : (t : Bool) → leb 166 b ≡ t → leb (255 - b) 89 ≡ t
    below true e = let l : 166 ≤ b = leb-true 166 b e in le-leb (255 - b) 89 (omega arith)
    below false e = let l : b < 166 = leb-false 166 b e in lt-leb (255 - b) 89 (omega arith)

    half : (t : Bool) → ltb b 128 ≡ t → latitude_ok (signed_of b) ≡ leb 166 b
    half true e =
        let l : b < 128 = ltb-true b 128 e in
        rw (signed_of-low b l, lt-leb 166 b (omega arith)) (lt-leb b 90 h)
    half false e = rw (signed_of-high b (ltb-false b 128 e)) (below (leb 166 b) refl)

pub ninety-byte : (b : ℕ) → is_ninety (signed_of b) ≡ eqb b 90
unfolding is_ninety
ninety-byte b = half (ltb b 128) refl
  where
    half : (t : Bool) → ltb b 128 ≡ t → is_ninety (signed_of b) ≡ eqb b 90
    half true e = rw (signed_of-low b (ltb-true b 128 e))
    half false e =
        let l : 128 ≤ b = ltb-false b 128 e in
        rw (signed_of-high b l, ne_eqb b 90 (omega arith))

pub fraction-ninety : (b x : ℕ) → b ≡ 90 → latitude_fraction_ok (signed_of b) x ≡ eqb x 0
unfolding latitude_fraction_ok fraction_ok
fraction-ninety b x h = rw (ninety-byte b, eq-eqb b 90 h) (zero (eqb x 0) refl)
  where
    zero : (t : Bool) → eqb x 0 ≡ t → (leb x 9999 && t) ≡ t
    zero true e = let z : x ≡ 0 = eqb-true x 0 e in rw z
    zero false e = and-false (leb x 9999)
      where
        and-false : (b : Bool) → (b && false) ≡ false
        and-false true = refl
        and-false false = refl

pub fraction-other : (b x : ℕ) → (b ≡ 90 → ⊥) → latitude_fraction_ok (signed_of b) x ≡ fraction_ok x
unfolding latitude_fraction_ok
fraction-other b x h = rw (ninety-byte b, ne_eqb b 90 h) (and_so (fraction_ok x))
  where
    and_so : (b : Bool) → (b && true) ≡ b
    and_so true = refl
    and_so false = refl

-- ---- what a record's fields are where the rule finds nothing; none of it speaks of where the record stands

pub record ValidFm (s : List ℕ) : Type 0 where
  pub receive : tone_ok (get_or s 85 0) ≡ true
  pub transmit : tone_ok (get_or s 86 0) ≡ true
  pub pad : get_or s 87 0 ≡ 0
  pub second : get_or s 88 0 ≡ 0
  pub third : get_or s 89 0 ≡ 0

pub record ValidDmr (s : List ℕ) : Type 0 where
  pub slot : slot_ok (get_or s 86 0) ≡ true
  pub pad : get_or s 89 0 ≡ 0

pub record ValidM17 (s : List ℕ) : Type 0 where
  pub operation : operation_ok (nibbles_of (get_or s 86 0)).high ≡ true
  pub encryption : encryption_ok (nibbles_of (get_or s 86 0)).low ≡ true
  pub position : get_or s 87 0 ≤ 1

pub record ValidChannel (s : List ℕ) : Type 0 where
  pub mode : get_or s 0 0 ≤ 2
  pub traits : number_flag_ok (get_or s 1 0) ≡ true
  pub scan : get_or s 11 0 ≤ 250
  pub group : get_or s 12 0 ≤ 128
  pub name : text_ok (part s 13 32) ≡ true
  pub description : text_ok (part s 45 32) ≡ true
  pub latitude : latitude_ok (signed_of (get_or s 77 0)) ≡ true
  pub latitude-fraction : latitude_fraction_ok (signed_of (get_or s 77 0)) (num s 78 2) ≡ true
  pub longitude-fraction : fraction_ok (num s 81 2) ≡ true
  pub fm : get_or s 0 0 ≡ 0 → ValidFm s
  pub dmr : get_or s 0 0 ≡ 1 → ValidDmr s
  pub m17 : get_or s 0 0 ≡ 2 → ValidM17 s

-- ---- the info's rule by the mode

module _ (s : List ℕ) (base : ℕ) (named : Bool) where
  pub info-fm : get_or s 0 0 ≡ 0 → info_rule s base named ≡ fm_rule s base
  unfolding info_rule
  info-fm e = rw (eq-eqb (get_or s 0 0) 0 e)

  pub info-dmr : get_or s 0 0 ≡ 1 → info_rule s base named ≡ dmr_rule s base named
  unfolding info_rule
  info-dmr e = rw (ne_eqb (get_or s 0 0) 0 (omega arith), eq-eqb (get_or s 0 0) 1 e)

  pub info-m17 : 2 ≤ get_or s 0 0 → info_rule s base named ≡ m17_rule s base named
  unfolding info_rule
  info-m17 e = rw (ne_eqb (get_or s 0 0) 0 (omega arith), ne_eqb (get_or s 0 0) 1 (omega arith))

-- by the mode, whatever is to be shown
pub by_mode : (P : Type 0) (m : ℕ) → (m ≡ 0 → P) → (m ≡ 1 → P) → (2 ≤ m → P) → P
by_mode P zero f d x = f refl
by_mode P (suc zero) f d x = d refl
by_mode P (suc (suc m)) f d x = x (omega arith)

-- ---- a valid record's fields, and its length

-- the first of several fields that are all valid
step : (left base k n : ℕ) (number : Reason) (ok : Bool) (v : Validity) → field_of left base k n number ok then v ≡ Valid
    → (k + n ≤ left) × ((ok ≡ true) × (v ≡ Valid))
step left base k n number ok v h =
    let g = then-valid (field_of left base k n number ok) v h in
    let f = field-valid left base k n number ok g.0 in
    (f.0, (f.1, g.1))

module _ (s : List ℕ) (base : ℕ) where
  valid-fm : fm_rule s base ≡ Valid → ValidFm s × (90 ≤ length s)
  unfolding fm_rule
  valid-fm h =
      let a = step _ _ _ _ _ _ _ h in
      let b = step _ _ _ _ _ _ _ a.1.1 in
      let c = step _ _ _ _ _ _ _ b.1.1 in
      let d = step _ _ _ _ _ _ _ c.1.1 in
      let e = field-valid _ _ _ _ _ _ d.1.1 in (
        record {
          receive = a.1.0;
          transmit = b.1.0;
          pad = eqb-true _ _ c.1.0;
          second = eqb-true _ _ d.1.0;
          third = eqb-true _ _ e.1;
        },
        e.0,
      )

  valid-dmr : (named : Bool) → dmr_rule s base named ≡ Valid → ValidDmr s × ((90 ≤ length s) × (named ≡ true))
  unfolding dmr_rule
  valid-dmr named h =
      let a = step _ _ _ _ _ _ _ h in
      let b = step _ _ _ _ _ _ _ a.1.1 in
      let c = step _ _ _ _ _ _ _ b.1.1 in
      let d = field-valid _ _ _ _ _ _ c.1.1 in
      (record { slot = b.1.0; pad = eqb-true _ _ d.1 }, (d.0, c.1.0))

  valid-m17 : (named : Bool) → m17_rule s base named ≡ Valid → ValidM17 s × ((90 ≤ length s) × (named ≡ true))
  unfolding m17_rule
  valid-m17 named h =
      let a = step _ _ _ _ _ _ _ h in
      let b = step _ _ _ _ _ _ _ a.1.1 in
      let c = step _ _ _ _ _ _ _ b.1.1 in
      let d = field-valid _ _ _ _ _ _ c.1.1 in
      let x : Bool = operation_ok (nibbles_of (get_or s 86 0)).high in
      let y : Bool = encryption_ok (nibbles_of (get_or s 86 0)).low in (
        record { operation = and_left x y b.1.0; encryption = and_right x y b.1.0; position = leb-true _ _ c.1.0 },
        (d.0, d.1),
      )

  valid-head : head_rule s base ≡ Valid
      → (get_or s 0 0 ≤ 2) × ((number_flag_ok (get_or s 1 0) ≡ true) × ((get_or s 11 0 ≤ 250) × (get_or s 12 0 ≤ 128)))
  unfolding head_rule mode_ok
  valid-head h =
      let a = step _ _ _ _ _ _ _ h in
      let b = step _ _ _ _ _ _ _ a.1.1 in
      let c = step _ _ _ _ _ _ _ b.1.1 in
      let d = step _ _ _ _ _ _ _ c.1.1 in
      let e = step _ _ _ _ _ _ _ d.1.1 in
      let f = step _ _ _ _ _ _ _ e.1.1 in
      let g = field-valid _ _ _ _ _ _ f.1.1 in
      (leb-true _ _ a.1.0, (b.1.0, (leb-true _ _ f.1.0, leb-true _ _ g.1)))

  valid-texts : texts_rule s base ≡ Valid → (text_ok (part s 13 32) ≡ true) × (text_ok (part s 45 32) ≡ true)
  unfolding texts_rule
  valid-texts h =
      let a = step _ _ _ _ _ _ _ h in
      let b = field-valid _ _ _ _ _ _ a.1.1 in
      (a.1.0, b.1)

  valid-location : location_rule s base ≡ Valid
      → (latitude_ok (signed_of (get_or s 77 0)) ≡ true) × ((latitude_fraction_ok (signed_of (get_or s 77 0)) (num s 78 2) ≡ true) × (fraction_ok (num s 81 2) ≡ true))
  unfolding location_rule
  valid-location h =
      let a = step _ _ _ _ _ _ _ h in
      let b = step _ _ _ _ _ _ _ a.1.1 in
      let c = step _ _ _ _ _ _ _ b.1.1 in
      let d = step _ _ _ _ _ _ _ c.1.1 in
      (a.1.0, (b.1.0, d.1.0))

  module _ (named : Bool) (h : channel_rule s base named ≡ Valid) where
    valid-parts : (head_rule s base ≡ Valid) × ((texts_rule s base ≡ Valid) × ((location_rule s base ≡ Valid) × (info_rule s base named ≡ Valid)))
    unfolding channel_rule
    valid-parts =
        let a = then-valid _ _ h in
        let b = then-valid _ _ a.1 in
        let c = then-valid _ _ b.1 in
        (a.0, (b.0, (c.0, c.1)))

    valid-info : info_rule s base named ≡ Valid
    valid-info = valid-parts.1.1.1

    pub valid-length : 90 ≤ length s
    valid-length =
        by_mode (90 ≤ length s) (get_or s 0 0)
        (λ e. (valid-fm (rw (info-fm s base named e) at valid-info)).1)
        (λ e. (valid-dmr named (rw (info-dmr s base named e) at valid-info)).1.0)
        (λ e. (valid-m17 named (rw (info-m17 s base named e) at valid-info)).1.0)

    -- the same, by a name that code can cite
    pub valid_length : 90 ≤ length s
    valid_length = valid-length

    -- beside FM the rule asks that the contact index names a contact
    pub valid-named : 1 ≤ get_or s 0 0 → named ≡ true
    valid-named l =
        by_mode (named ≡ true) (get_or s 0 0)
        (λ e. absurd (omega arith))
        (λ e. (valid-dmr named (rw (info-dmr s base named e) at valid-info)).1.1)
        (λ e. (valid-m17 named (rw (info-m17 s base named e) at valid-info)).1.1)

    pub valid-channel : ValidChannel s
    valid-channel =
        let a = valid-head valid-parts.0 in
        let b = valid-texts valid-parts.1.0 in
        let c = valid-location valid-parts.1.1.0 in
        record {
          mode = a.0;
          traits = a.1.0;
          scan = a.1.1.0;
          group = a.1.1.1;
          name = b.0;
          description = b.1;
          latitude = c.0;
          latitude-fraction = c.1.0;
          longitude-fraction = c.1.1;
          fm = λ e. (valid-fm (rw (info-fm s base named e) at valid-info)).0;
          dmr = λ e. (valid-dmr named (rw (info-dmr s base named e) at valid-info)).0;
          m17 = λ e. (valid-m17 named (rw (info-m17 s base named (omega arith)) at valid-info)).0;
        }

-- ---- and back

-- a valid field before others
pass : (left base k n : ℕ) (number : Reason) (ok : Bool) (v : Validity) → k + n ≤ left → ok ≡ true → v ≡ Valid
    → field_of left base k n number ok then v ≡ Valid
pass left base k n number ok v h g e =
    both-valid (field_of left base k n number ok) v (field-passes left base k n number ok h g) e

module _ (s : List ℕ) (base : ℕ) (l : 90 ≤ length s) where
  fm-valid : ValidFm s → fm_rule s base ≡ Valid
  unfolding fm_rule
  fm-valid g =
      pass _ _ 85 1 _ _ _ (omega arith) g.receive
      (pass _ _ 86 1 _ _ _ (omega arith) g.transmit
      (pass _ _ 87 1 _ _ _ (omega arith) (eq-eqb _ _ g.pad)
      (pass _ _ 88 1 _ _ _ (omega arith) (eq-eqb _ _ g.second)
      (field-passes _ _ 89 1 _ _ (omega arith) (eq-eqb _ _ g.third)))))

  dmr-valid : ValidDmr s → dmr_rule s base true ≡ Valid
  unfolding dmr_rule
  dmr-valid g =
      pass _ _ 85 1 _ _ _ (omega arith) refl
      (pass _ _ 86 1 _ _ _ (omega arith) g.slot
      (pass _ _ 87 2 _ _ _ (omega arith) refl
      (field-passes _ _ 89 1 _ _ (omega arith) (eq-eqb _ _ g.pad))))

  m17-valid : ValidM17 s → m17_rule s base true ≡ Valid
  unfolding m17_rule
  m17-valid g =
      pass _ _ 85 1 _ _ _ (omega arith) refl
      (pass _ _ 86 1 _ _ _ (omega arith) (and_both _ _ g.operation g.encryption)
      (pass _ _ 87 1 _ _ _ (omega arith) (le-leb _ _ g.position)
      (field-passes _ _ 88 2 _ _ (omega arith) refl)))

  module _ (g : ValidChannel s) where
    head-valid : head_rule s base ≡ Valid
    unfolding head_rule mode_ok
    head-valid =
        pass _ _ 0 1 _ _ _ (omega arith) (le-leb _ _ g.mode)
        (pass _ _ 1 1 _ _ _ (omega arith) g.traits
        (pass _ _ 2 1 _ _ _ (omega arith) refl
        (pass _ _ 3 4 _ _ _ (omega arith) refl
        (pass _ _ 7 4 _ _ _ (omega arith) refl
        (pass _ _ 11 1 _ _ _ (omega arith) (le-leb _ _ g.scan)
        (field-passes _ _ 12 1 _ _ (omega arith) (le-leb _ _ g.group)))))))

    texts-valid : texts_rule s base ≡ Valid
    unfolding texts_rule
    texts-valid =
        pass _ _ 13 32 _ _ _ (omega arith) g.name
        (field-passes _ _ 45 32 _ _ (omega arith) g.description)

    location-valid : location_rule s base ≡ Valid
    unfolding location_rule
    location-valid =
        pass _ _ 77 1 _ _ _ (omega arith) g.latitude
        (pass _ _ 78 2 _ _ _ (omega arith) g.latitude-fraction
        (pass _ _ 80 1 _ _ _ (omega arith) refl
        (pass _ _ 81 2 _ _ _ (omega arith) g.longitude-fraction
        (field-passes _ _ 83 2 _ _ (omega arith) refl))))

    -- of FM whatever `named` is
    info-valid : (named : Bool) → (1 ≤ get_or s 0 0 → named ≡ true) → info_rule s base named ≡ Valid
    info-valid named n =
        by_mode (info_rule s base named ≡ Valid) (get_or s 0 0)
        (λ e. info-fm s base named e ∙ fm-valid (g.fm e))
        (λ e. info-dmr s base named e ∙ rw (n (omega arith)) (dmr-valid (g.dmr e)))
        (λ e. info-m17 s base named e ∙ rw (n (omega arith)) (m17-valid (g.m17 (omega (arith, g.mode)))))

-- an FM record needs no contact that is named
pub channel-valid-by : (s : List ℕ) (base : ℕ) (named : Bool) → ValidChannel s → 90 ≤ length s → (1 ≤ get_or s 0 0 → named ≡ true)
    → channel_rule s base named ≡ Valid
unfolding channel_rule
channel-valid-by s base named g l n =
    both-valid _ _ (head-valid s base l g)
    (both-valid _ _ (texts-valid s base l g)
    (both-valid _ _ (location-valid s base l g) (info-valid s base l g named n)))

pub channel-valid : (s : List ℕ) (base : ℕ) (named : Bool) → ValidChannel s → 90 ≤ length s → named ≡ true → channel_rule s base named ≡ Valid
channel-valid s base named g l n = channel-valid-by s base named g l (λ _. n)

-- ---- the contact that a record names

module _ (s : List ℕ) where
  pub dmr-named : get_or s 0 0 ≡ 1 → 89 ≤ length s → named_contact s ≡ contact_index_of (num s 87 2)
  unfolding named_contact
  dmr-named e l = rw (eq-eqb (get_or s 0 0) 1 e, le-leb 89 (length s) l)

  pub m17-named : get_or s 0 0 ≡ 2 → 90 ≤ length s → named_contact s ≡ contact_index_of (num s 88 2)
  unfolding named_contact
  m17-named e l = rw (ne_eqb (get_or s 0 0) 1 (omega arith), eq-eqb (get_or s 0 0) 2 e, le-leb 90 (length s) l)

  pub fm-names-none : get_or s 0 0 ≡ 0 → named_contact s ≡ None
  unfolding named_contact
  fm-names-none e = rw (ne_eqb (get_or s 0 0) 1 (omega arith), ne_eqb (get_or s 0 0) 2 (omega arith))

  pub no-mode-names-none : 2 < get_or s 0 0 → named_contact s ≡ None
  unfolding named_contact
  no-mode-names-none e = rw (ne_eqb (get_or s 0 0) 1 (omega arith), ne_eqb (get_or s 0 0) 2 (omega arith))

  -- a record that ends inside its contact index or before it
  pub cut-names-none : length s < 89 → named_contact s ≡ None
  unfolding named_contact
  cut-names-none l = rw (lt-leb 89 (length s) l, lt-leb 90 (length s) (omega arith)) (by (eqb (get_or s 0 0) 1) (eqb (get_or s 0 0) 2))
    where
      by : (a b : Bool) → ◌≡◌ {A = Option ℕ} (cond a None (cond b None None)) None
      by true b = refl
      by false true = refl
      by false false = refl

  pub cut-m17-names-none : get_or s 0 0 ≡ 2 → length s < 90 → named_contact s ≡ None
  unfolding named_contact
  cut-m17-names-none e l = rw (ne_eqb (get_or s 0 0) 1 (omega arith), eq-eqb (get_or s 0 0) 2 e, lt-leb 90 (length s) l)

-- ---- whether the index names a contact is asked of a DMR or M17 record that holds its index whole, and of no other

module _ (s : List ℕ) (base : ℕ) (a b : Bool) where
  index-asked : (k : ℕ) → (k + 2 ≤ length s → a ≡ b) → field s base k 2 reason.ContactIndex a ≡ field s base k 2 reason.ContactIndex b
  index-asked k h = by (leb (k + 2) (length s)) refl
    where
      by : (t : Bool) → leb (k + 2) (length s) ≡ t → field s base k 2 reason.ContactIndex a ≡ field s base k 2 reason.ContactIndex b
      by true e = rw (h (leb-true (k + 2) (length s) e))
      by false e =
          let l : length s < k + 2 = leb-false (k + 2) (length s) e in
          field_cut (length s) base k 2 reason.ContactIndex a l ∙ sym (field_cut (length s) base k 2 reason.ContactIndex b l)

  module _ (d : get_or s 0 0 ≡ 1 → 89 ≤ length s → a ≡ b) (m : get_or s 0 0 ≡ 2 → 90 ≤ length s → a ≡ b) where
    dmr-asked : get_or s 0 0 ≡ 1 → dmr_rule s base a ≡ dmr_rule s base b
    unfolding dmr_rule
    dmr-asked e = rw (index-asked 87 (d e))

    m17-asked : get_or s 0 0 ≡ 2 → m17_rule s base a ≡ m17_rule s base b
    unfolding m17_rule
    m17-asked e = rw (index-asked 88 (m e))

    info-unread : get_or s 0 0 ≤ 2 → info_rule s base a ≡ info_rule s base b
    info-unread h =
        by_mode (info_rule s base a ≡ info_rule s base b) (get_or s 0 0)
        (λ e. rw (info-fm s base a e, info-fm s base b e))
        (λ e. rw (info-dmr s base a e, info-dmr s base b e, dmr-asked e))
        (λ l. rw (info-m17 s base a l, info-m17 s base b l, m17-asked (omega arith)))

    -- whatever refuses the head, if it refuses a mode that is not there
    pub named-unread-by : (head : Validity) → (head ≡ Valid → get_or s 0 0 ≤ 2) → channel_rule_by head s base a ≡ channel_rule_by head s base b
    unfolding ◌then◌
    named-unread-by (Ok u) h = rw (info-unread (h refl))
    named-unread-by (Err e) h = refl

    pub named-unread : channel_rule s base a ≡ channel_rule s base b
    unfolding channel_rule
    named-unread = named-unread-by (head_rule s base) (λ h. (valid-head s base h).0)
