-- A channel whose contact index moves along with the contacts stays valid, and names the same contact. And a valid channel
-- whose contact index names no contact is refused at its index, and nowhere else.
use Prim.Native.Nat.{ℕ, ◌+◌, ◌≤◌, ◌<◌}
use mathlib.Core.Path.{◌≡◌, refl, ap, sym, ◌∙◌}
use mathlib.Core.Bool.{Bool, true, false, ◌&&◌, cond}
use mathlib.Core.List.{List, [], ◌++◌}
use native.Mathlib.Omega.{arith}
use native.Mathlib.Nat.{zero-add}
use lib.ListN.{length, take, drop, get_or, get_or-append}
use lib.Seq.{get_or-take, get_or-drop, length-take-le}
use lib.Dec.{leb, ltb, eqb}
use borrow.Author.Tests.{eqb-true, ne_eqb, ltb-true, lt-ltb}
use Rattle.fields.specs.Bytes.{part, num, little, little_bytes, over}
use Rattle.fields.specs.Rule.{◌then◌, unless, field_of, Valid}
use Rattle.fields.proofs.Laws.{part_left, part-part, length_over, part-over, drop-over, length-little_bytes, little-little_bytes, bytes-little_bytes}
use Rattle.fields.proofs.Laws.{bytes-over, AllBytes, then-valid, then-of-valid, unless-passes, field-inside}
use Rattle.bits.specs.Packed.{nibbles_of}
use Rattle.bits.proofs.Laws.{and_left, and_right}
use Rattle.channel.specs.Values.{contact_index_place, contact_index_of, slot_ok, operation_ok, encryption_ok}
use Rattle.channel.specs.Rule.{head_rule, texts_rule, location_rule, dmr_rule, m17_rule, info_rule, channel_rule, named_contact}
use Rattle.channel.proofs.Laws.{ValidChannel, ValidDmr, ValidM17, by_mode, info-dmr, info-m17, channel-valid, dmr-named, m17-named}
use Rattle.model.specs.Edits.{with_index_at, move_contact}
use Rattle.edits.proofs.AcceptedCodeplug.{names_in, ChannelValid, fm-names}
use Rattle.std.specs.Prelude.{Some}
use Rattle.format.specs.declared.refusals.Reason.TheVariants as reason

-- ---- two bytes of a channel written over

module _ (s : List ℕ) (k v : ℕ) (w : length s ≡ 90) (hi : k ≤ 88) where
  abbrev written : List ℕ
  written = over s k (little_bytes 2 v)

  written-length : length written ≡ 90
  written-length = length_over s k (little_bytes 2 v) (omega (arith, length-little_bytes 2 v)) ∙ w

  byte-before : (j : ℕ) → j < k → get_or written j 0 ≡ get_or s j 0
  unfolding over
  byte-before j h =
      get_or-append (take k s) (little_bytes 2 v ++ drop (k + length (little_bytes 2 v)) s) 0 j
      (omega (arith, length-take-le k s (omega arith)))
      ∙ get_or-take k s j 0 h

  part-before : (j n : ℕ) → j + n ≤ k → part written j n ≡ part s j n
  unfolding over
  part-before j n h =
      part_left (take k s) (little_bytes 2 v ++ drop (k + length (little_bytes 2 v)) s) j n
      (omega (arith, length-take-le k s (omega arith)))
      ∙ part-part s 0 k j n h
      ∙ rw zero-add

  byte-behind : get_or written (k + 2) 0 ≡ get_or s (k + 2) 0
  byte-behind =
      let e = length-little_bytes 2 v in
      let d : drop (k + 2) written ≡ drop (k + 2) s = rw e at (drop-over s k (little_bytes 2 v) (omega arith)) in
      let z : k + 2 + 0 ≡ k + 2 = omega arith in
      ap (λ (j : ℕ). get_or written j 0) (sym z)
      ∙ sym (get_or-drop (k + 2) written 0 0)
      ∙ ap (λ (l : List ℕ). get_or l 0 0) d
      ∙ get_or-drop (k + 2) s 0 0
      ∙ ap (λ (j : ℕ). get_or s j 0) z

  written-num : v < 65536 → num written k 2 ≡ v
  written-num h =
      ap little (part-over s k (little_bytes 2 v) 2 (omega arith) (length-little_bytes 2 v)) ∙ little-little_bytes 2 v h

  pub written-valid : 87 ≤ k → ValidChannel s → (get_or s 0 0 ≡ 0 → ⊥) → (get_or s 0 0 ≡ 1 → ValidDmr written)
      → (get_or s 0 0 ≡ 2 → ValidM17 written) → ValidChannel written
  written-valid lo g f d m =
      let e : get_or written 0 0 ≡ get_or s 0 0 = byte-before 0 (omega arith) in
      record {
        mode = rw e g.mode;
        traits = rw (byte-before 1 (omega arith)) g.traits;
        scan = rw (byte-before 11 (omega arith)) g.scan;
        group = rw (byte-before 12 (omega arith)) g.group;
        name = rw (part-before 13 32 (omega arith)) g.name;
        description = rw (part-before 45 32 (omega arith)) g.description;
        latitude = rw (byte-before 77 (omega arith)) g.latitude;
        latitude-fraction = rw (byte-before 77 (omega arith), part-before 78 2 (omega arith)) g.latitude-fraction;
        longitude-fraction = rw (part-before 81 2 (omega arith)) g.longitude-fraction;
        fm = λ z. absurd (f (sym e ∙ z));
        dmr = λ z. d (sym e ∙ z);
        m17 = λ z. m (sym e ∙ z);
      }

-- ---- a contact index that moves along

-- what a channel's index x names before and after
abbrev pub SameContact : List (List ℕ) → List (List ℕ) → (ℕ → ℕ) → ℕ → Type 0
SameContact l k move x = (move x < length k) × (get_or k (move x) [] ≡ get_or l x [])

module _ (l k : List (List ℕ)) (move : ℕ → ℕ) (none : move 65535 ≡ 65535) (fits : length k ≤ 65535) where
  -- by the index x, whose contact is in the list
  index-moves : (mode x : ℕ) → names_in l mode (contact_index_of x) ≡ true
      → (contact_index_of x ≡ Some x → x < length l → SameContact l k move x)
      → (move x < 65536) × (names_in k mode (contact_index_of (move x)) ≡ true)
  unfolding contact_index_of names_in
  index-moves mode x h f = by (eqb x 65535) refl
    where
      by : (t : Bool) → eqb x 65535 ≡ t → (move x < 65536) × (names_in k mode (contact_index_of (move x)) ≡ true)
      by true e =
          let d : x ≡ 65535 = eqb-true x 65535 e in
          let n : move x ≡ 65535 = ap move d ∙ none in
          (omega arith, rw n)
      by false e =
          let i : contact_index_of x ≡ Some x = rw e in
          let g : (ltb x (length l) && eqb (get_or (get_or l x []) 32 0) mode) ≡ true = rw e at h in
          let a : x < length l = ltb-true x (length l) (and_left _ _ g) in
          let y = f i a in
          let z : move x < length k = y.0 in
          let same : eqb (get_or (get_or l x []) 32 0) mode ≡ true = and_right (ltb x (length l)) (eqb (get_or (get_or l x []) 32 0) mode) g in
          (omega arith, rw (ne_eqb (move x) 65535 (λ q. omega arith), lt-ltb (move x) (length k) z, y.1) same)

  module _ (s : List ℕ) (h : ChannelValid l s) (w : length s ≡ 90)
      (f : (x : ℕ) → named_contact s ≡ Some x → x < length l → SameContact l k move x) where
    fm-moves : get_or s 0 0 ≡ 0 → ChannelValid k (move_contact move s)
    unfolding move_contact
    fm-moves e =
        let g : ChannelValid k s = record { valid = h.valid; whole = h.whole; names = fm-names k s e } in
        rw e g

    dmr-moves : get_or s 0 0 ≡ 1 → ChannelValid k (move_contact move s)
    unfolding move_contact with_index_at
    dmr-moves e =
        let x = num s 87 2 in
        let d : named_contact s ≡ contact_index_of x = dmr-named s e (omega arith) in
        let i = index-moves 1 x (rw (d, e) at h.names) (λ q. f x (d ∙ q)) in
        let t = over s 87 (little_bytes 2 (move x)) in
        let wide : length t ≡ 90 = written-length s 87 (move x) w (omega arith) in
        let mode : get_or t 0 0 ≡ 1 = byte-before s 87 (move x) w (omega arith) 0 (omega arith) ∙ e in
        let g : ValidChannel t =
        written-valid s 87 (move x) w (omega arith) (omega arith) h.valid (λ z. omega arith)
        (λ z. record {
          slot = rw (byte-before s 87 (move x) w (omega arith) 86 (omega arith)) (h.valid.dmr e).slot;
          pad = byte-behind s 87 (move x) w (omega arith) ∙ (h.valid.dmr e).pad;
        })
        (λ z. absurd (omega arith))
        in
        let names : names_in k (get_or t 0 0) (named_contact t) ≡ true =
        rw (mode, dmr-named t mode (omega arith), written-num s 87 (move x) w (omega arith) i.0) i.1
        in
        let all : ChannelValid k t = record { valid = g; whole = omega arith; names = names } in
        rw e all

    m17-moves : get_or s 0 0 ≡ 2 → ChannelValid k (move_contact move s)
    unfolding move_contact with_index_at
    m17-moves e =
        let x = num s 88 2 in
        let d : named_contact s ≡ contact_index_of x = m17-named s e (omega arith) in
        let i = index-moves 2 x (rw (d, e) at h.names) (λ q. f x (d ∙ q)) in
        let t = over s 88 (little_bytes 2 (move x)) in
        let wide : length t ≡ 90 = written-length s 88 (move x) w (omega arith) in
        let mode : get_or t 0 0 ≡ 2 = byte-before s 88 (move x) w (omega arith) 0 (omega arith) ∙ e in
        let g : ValidChannel t =
        written-valid s 88 (move x) w (omega arith) (omega arith) h.valid (λ z. omega arith)
        (λ z. absurd (omega arith))
        (λ z. record {
          operation = rw (byte-before s 88 (move x) w (omega arith) 86 (omega arith)) (h.valid.m17 e).operation;
          encryption = rw (byte-before s 88 (move x) w (omega arith) 86 (omega arith)) (h.valid.m17 e).encryption;
          position = rw (byte-before s 88 (move x) w (omega arith) 87 (omega arith)) (h.valid.m17 e).position;
        })
        in
        let names : names_in k (get_or t 0 0) (named_contact t) ≡ true =
        rw (mode, m17-named t mode (omega arith), written-num s 88 (move x) w (omega arith) i.0) i.1
        in
        let all : ChannelValid k t = record { valid = g; whole = omega arith; names = names } in
        rw e all

    pub channel-moves : ChannelValid k (move_contact move s)
    channel-moves =
        by_mode (ChannelValid k (move_contact move s)) (get_or s 0 0)
        (λ e. fm-moves e)
        (λ e. dmr-moves e)
        (λ e. m17-moves (omega (arith, h.valid.mode)))

-- ---- its length and its bytes

pub moved-wide : (move : ℕ → ℕ) (s : List ℕ) → length s ≡ 90 → length (move_contact move s) ≡ 90
unfolding move_contact with_index_at
moved-wide move s w = by (eqb (get_or s 0 0) 1) (eqb (get_or s 0 0) 2)
  where
    by : (a b : Bool) → length (cond a (with_index_at 87 move s) (cond b (with_index_at 88 move s) s)) ≡ 90
    by true b = written-length s 87 (move (num s 87 2)) w (omega arith)
    by false true = written-length s 88 (move (num s 88 2)) w (omega arith)
    by false false = w

pub moved-bytes : (move : ℕ → ℕ) (s : List ℕ) → AllBytes s → AllBytes (move_contact move s)
unfolding move_contact with_index_at
moved-bytes move s h = by (eqb (get_or s 0 0) 1) (eqb (get_or s 0 0) 2)
  where
    by : (a b : Bool) → AllBytes (cond a (with_index_at 87 move s) (cond b (with_index_at 88 move s) s))
    by true b = bytes-over s 87 (little_bytes 2 (move (num s 87 2))) h (bytes-little_bytes 2 (move (num s 87 2)))
    by false true = bytes-over s 88 (little_bytes 2 (move (num s 88 2))) h (bytes-little_bytes 2 (move (num s 88 2)))
    by false false = h

-- ---- a valid channel whose index names no contact

module _ (s : List ℕ) (p : ℕ) (g : ValidChannel s) (l : 90 ≤ length s) where
  -- up to the info nothing refuses
  up-to-info : (named : Bool) → channel_rule s p named ≡ info_rule s p named
  unfolding channel_rule ◌then◌
  up-to-info named =
      let a = then-valid (head_rule s p) _ (channel-valid s p true g l refl) in
      let b = then-valid (texts_rule s p) _ a.1 in
      let d = then-valid (location_rule s p) _ b.1 in
      rw (a.0, b.0, d.0)

  info-passes : info_rule s p true ≡ Valid
  info-passes = sym (up-to-info true) ∙ channel-valid s p true g l refl

  dmr-unless : (named : Bool) → get_or s 0 0 ≡ 1 → info_rule s p named ≡ unless named reason.ContactIndex (p + 87)
  unfolding dmr_rule ◌then◌
  dmr-unless named e =
      let a = then-valid (field_of (length s) p 85 1 reason.Value true) _ (sym (info-dmr s p true e) ∙ info-passes) in
      let b = then-valid (field_of (length s) p 86 1 reason.Value (slot_ok (get_or s 86 0))) _ a.1 in
      let d = then-valid (field_of (length s) p 87 2 reason.ContactIndex true) _ b.1 in
      info-dmr s p named e
      ∙ rw (a.0, b.0, d.1, field-inside (length s) p 87 2 reason.ContactIndex named (omega arith)) (then-of-valid (unless named reason.ContactIndex (p + 87)))

  m17-unless : (named : Bool) → 2 ≤ get_or s 0 0 → info_rule s p named ≡ unless named reason.ContactIndex (p + 88)
  unfolding m17_rule ◌then◌
  m17-unless named e =
      let a = then-valid (field_of (length s) p 85 1 reason.Value true) _ (sym (info-m17 s p true e) ∙ info-passes) in
      let b =
      then-valid (field_of (length s) p 86 1 reason.Value (operation_ok (nibbles_of (get_or s 86 0)).high && encryption_ok (nibbles_of (get_or s 86 0)).low)) _
      a.1
      in
      let d = then-valid (field_of (length s) p 87 1 reason.Value (leb (get_or s 87 0) 1)) _ b.1 in
      info-m17 s p named e
      ∙ rw (a.0, b.0, d.0) (field-inside (length s) p 88 2 reason.ContactIndex named (omega arith))

  pub channel-unless : (named : Bool) → (get_or s 0 0 ≡ 0 → named ≡ true)
      → channel_rule s p named ≡ unless named reason.ContactIndex (p + contact_index_place (get_or s 0 0))
  channel-unless named f =
      up-to-info named
      ∙ by_mode (info_rule s p named ≡ unless named reason.ContactIndex (p + contact_index_place (get_or s 0 0))) (get_or s 0 0)
      (λ e. rw (f e) (info-passes ∙ sym (unless-passes true reason.ContactIndex (p + contact_index_place (get_or s 0 0)) refl)))
      (λ e. rw e (dmr-unless named e))
      (λ e. let d : get_or s 0 0 ≡ 2 = omega (arith, g.mode) in rw d (m17-unless named e))
