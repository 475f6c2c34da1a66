-- Laws of writing a channel: what a valid given says field by field, and a record that grows from its front over zeros.
use Prim.Native.Nat.{ℕ, ◌+◌, ◌-◌, ◌≤◌, ◌<◌}
use mathlib.Core.Path.{◌≡◌, refl, sym, ◌∙◌}
use mathlib.Core.Bool.{Bool, true, false, ◌&&◌, cond}
use mathlib.Core.List.{List, [], ◌++◌, append_assoc}
use native.Mathlib.Omega.{arith}
use lib.ListN.{length, take, drop, length-append}
use lib.Seq.{take_at, drop_at, drop-drop}
use lib.Dec.{leb}
use lib.IntN.{ℤ}
use lib.Signed.{mag}
use mir.Syntax.{w8}
use mir.Val.{to_z, of_z, bool_byte}
use mir.ValLaws.{to_z-of_z}
use borrow.Author.Tests.{leb-true, le-leb}
use Rattle.fields.specs.Bytes.{zeros, over, little_bytes}
use Rattle.text.specs.Text.{given_ok, padded}
use Rattle.fields.specs.Rule.{◌then◌, unless, Validity, Valid}
use Rattle.fields.proofs.Laws.{Long, long-append, length-zeros, zeros-append, drop-zeros, over-over, over-front-at}
use Rattle.fields.proofs.Laws.{then-valid, both-valid, unless-valid, unless-passes}
use Rattle.text.proofs.Laws.{given_ok-length, length-padded}
use Rattle.bits.specs.declared.Nibbles.{Nibbles}
use Rattle.bits.specs.Packed.{number_flag_valid, nibbles_valid, signed_of, signed_byte}
use Rattle.bits.proofs.Laws.{signed-returns, i8_range-fits, and_left, and_right, and_both}
use Rattle.tones.specs.Tone.{tone_valid}
use Rattle.channel.specs.Values.{traits_number_flag, latitude_ok, latitude_fraction_ok, fraction_ok, slot_ok, operation_ok, encryption_ok, mode_number}
use Rattle.channel_writer.specs.Writing.{head_write_rule, location_write_rule, info_write_rule, channel_write_rule}
use Rattle.channel_writer.specs.Writing.{head_bytes, location_bytes, info_bytes, channel_bytes}
use Rattle.channel.specs.declared.Location.{Location}
use Rattle.channel.specs.declared.Common.{Common}
use Rattle.channel.specs.declared.FmInfo.{FmInfo}
use Rattle.channel.specs.declared.DmrInfo.{DmrInfo}
use Rattle.channel.specs.declared.M17Info.{M17Info}
use Rattle.channel.specs.declared.Info.{Info}
use Rattle.channel.specs.declared.Info.TheVariants.{Fm, Dmr, M17}
use Rattle.format.specs.declared.refusals.Reason.{Reason}

-- ---- a signed field that is handed on as its bits

pub i8_passed : (z : ℤ) → mag z < 128 → to_z w8 (of_z w8 z) ≡ z
i8_passed z f = to_z-of_z w8 z (record { sfits = f })

pub i8_byte : (z : ℤ) → mag z < 128 → signed_of (signed_byte z) ≡ z
i8_byte z f = signed-returns z (i8_range-fits z (record { sfits = f }))

-- a flag as a byte
pub flag-byte : (b : Bool) → bool_byte b ≡ cond b 1 0
flag-byte true = refl
flag-byte false = refl

-- ---- what a valid given says, field by field

pub record WritableHead (c : Common) : Type 0 where
  pub traits : number_flag_valid (traits_number_flag c.traits) ≡ true
  pub scan : leb c.scan_list 250 ≡ true
  pub group : leb c.group_list 128 ≡ true

pub record WritableLocation (l : Location) : Type 0 where
  pub floor : latitude_ok l.latitude ≡ true
  pub above : latitude_fraction_ok l.latitude l.latitude_e4 ≡ true
  pub beyond : fraction_ok l.longitude_e4 ≡ true

pub record WritableFm (i : FmInfo) : Type 0 where
  pub first : tone_valid i.receive ≡ true
  pub second : tone_valid i.transmit ≡ true

pub record WritableDmr (i : DmrInfo) : Type 0 where
  pub nibbles : nibbles_valid i.colours ≡ true
  pub timeslot : slot_ok i.slot ≡ true

pub record WritableM17 (i : M17Info) : Type 0 where
  pub nibbles : nibbles_valid i.access ≡ true
  pub use-of : operation_ok i.operation && encryption_ok i.encryption ≡ true

pub record Writable (name description : List ℕ) (common : Common) (info : Info) : Type 0 where
  pub head : head_write_rule common ≡ Valid
  pub text : given_ok name ≡ true
  pub second : given_ok description ≡ true
  pub place : location_write_rule common.location ≡ Valid
  pub rest : info_write_rule info ≡ Valid

-- three tests in a row
three-valid : (a b c : Validity) → (a then b then c) ≡ Valid → (a ≡ Valid) × ((b ≡ Valid) × (c ≡ Valid))
three-valid a b c h =
    let f = then-valid a (b then c) h in
    (f.0, then-valid b c f.1)

three-pass : (a b c : Validity) → a ≡ Valid → b ≡ Valid → c ≡ Valid → (a then b then c) ≡ Valid
three-pass a b c f g h = both-valid a (b then c) f (both-valid b c g h)

three-tests : (p q r : Bool) (k : Reason) (l : Reason) (m : Reason) (i j n : ℕ) → (unless p k i then unless q l j then unless r m n) ≡ Valid
    → (p ≡ true) × ((q ≡ true) × (r ≡ true))
three-tests p q r k l m i j n h =
    let f = three-valid (unless p k i) (unless q l j) (unless r m n) h in
    (unless-valid p k i f.0, (unless-valid q l j f.1.0, unless-valid r m n f.1.1))

tests-three : (p q r : Bool) (k : Reason) (l : Reason) (m : Reason) (i j n : ℕ) → p ≡ true → q ≡ true → r ≡ true
    → (unless p k i then unless q l j then unless r m n) ≡ Valid
tests-three p q r k l m i j n e f g =
    three-pass (unless p k i) (unless q l j) (unless r m n) (unless-passes p k i e) (unless-passes q l j f) (unless-passes r m n g)

pub head-writable : (c : Common) → head_write_rule c ≡ Valid → WritableHead c
unfolding head_write_rule
head-writable c h =
    let f = three-tests _ _ _ _ _ _ _ _ _ h in
    record { traits = f.0; scan = f.1.0; group = f.1.1 }

pub head-passes : (c : Common) → WritableHead c → head_write_rule c ≡ Valid
unfolding head_write_rule
head-passes c g = tests-three _ _ _ _ _ _ _ _ _ g.traits g.scan g.group

pub location-writable : (l : Location) → location_write_rule l ≡ Valid → WritableLocation l
unfolding location_write_rule
location-writable l h =
    let f = three-tests _ _ _ _ _ _ _ _ _ h in
    record { floor = f.0; above = f.1.0; beyond = f.1.1 }

pub location-passes : (l : Location) → WritableLocation l → location_write_rule l ≡ Valid
unfolding location_write_rule
location-passes l g = tests-three _ _ _ _ _ _ _ _ _ g.floor g.above g.beyond

pub fm-writable : (i : FmInfo) → info_write_rule (Fm i) ≡ Valid → WritableFm i
unfolding info_write_rule
fm-writable i h =
    let f = then-valid _ _ h in
    record { first = unless-valid _ _ _ f.0; second = unless-valid _ _ _ f.1 }

pub fm-passes : (i : FmInfo) → WritableFm i → info_write_rule (Fm i) ≡ Valid
unfolding info_write_rule
fm-passes i g = both-valid _ _ (unless-passes _ _ _ g.first) (unless-passes _ _ _ g.second)

pub dmr-writable : (i : DmrInfo) → info_write_rule (Dmr i) ≡ Valid → WritableDmr i
unfolding info_write_rule
dmr-writable i h =
    let f = then-valid _ _ h in
    record { nibbles = unless-valid _ _ _ f.0; timeslot = unless-valid _ _ _ f.1 }

pub dmr-passes : (i : DmrInfo) → WritableDmr i → info_write_rule (Dmr i) ≡ Valid
unfolding info_write_rule
dmr-passes i g = both-valid _ _ (unless-passes _ _ _ g.nibbles) (unless-passes _ _ _ g.timeslot)

pub m17-writable : (i : M17Info) → info_write_rule (M17 i) ≡ Valid → WritableM17 i
unfolding info_write_rule
m17-writable i h =
    let f = then-valid _ _ h in
    record { nibbles = unless-valid _ _ _ f.0; use-of = unless-valid _ _ _ f.1 }

pub m17-passes : (i : M17Info) → WritableM17 i → info_write_rule (M17 i) ≡ Valid
unfolding info_write_rule
m17-passes i g = both-valid _ _ (unless-passes _ _ _ g.nibbles) (unless-passes _ _ _ g.use-of)

module _ (size : ℕ) (name description : List ℕ) (common : Common) (info : Info) where
  pub rule-room : channel_write_rule size name description common info ≡ Valid → 90 ≤ size
  unfolding channel_write_rule
  rule-room h = leb-true 90 size (unless-valid _ _ _ (then-valid _ _ h).0)

  pub writable-by : channel_write_rule size name description common info ≡ Valid → Writable name description common info
  unfolding channel_write_rule
  writable-by h =
      let f = then-valid _ _ h in
      let g = three-valid _ _ _ f.1 in
      let i = three-valid _ _ _ g.1.1 in
      record {
        head = g.0;
        text = unless-valid _ _ _ g.1.0;
        second = unless-valid _ _ _ i.0;
        place = i.1.0;
        rest = i.1.1;
      }

  pub rule-passes : 90 ≤ size → Writable name description common info → channel_write_rule size name description common info ≡ Valid
  unfolding channel_write_rule
  rule-passes h g =
      both-valid _ _ (unless-passes _ _ _ (le-leb 90 size h))
      (three-pass _ _ _ g.head (unless-passes _ _ _ g.text)
      (three-pass _ _ _ (unless-passes _ _ _ g.second) g.place g.rest))

-- ---- fields side by side

-- o is d with the n bytes s written over it from place k on
pub record Run (d o : List ℕ) (k n : ℕ) (s : List ℕ) : Type 0 where
  pub is : o ≡ over d k s
  pub size : Long s n
  pub starts : k ≤ length d

pub run-start : (d o : List ℕ) (k : ℕ) (s : List ℕ) {n : ℕ} → Long s n → o ≡ over d k s → k ≤ length d → Run d o k n s
run-start d o k s l e h = record { is = e; size = l; starts = h }

pub run-then : {d o : List ℕ} {k n : ℕ} {s : List ℕ} → Run d o k n s → (p t : List ℕ) {m : ℕ} → Long t m → p ≡ over o (k + n) t
    → Run d p k (n + m) (s ++ t)
run-then {d} {o} {k} {n} {s} r p t l e =
    record {
      is = rw (e, r.is) (over-over d k s (k + n) t (rw r.size.long) r.starts);
      size = long-append r.size l;
      starts = r.starts;
    }

-- ---- a record that grows from its front

-- o is w, which has k bytes, and then m zeros
pub record Front (o w : List ℕ) (k m : ℕ) : Type 0 where
  pub is : o ≡ w ++ zeros m
  pub size : Long w k

module _ {o w : List ℕ} {k m : ℕ} (f : Front o w k m) where
  pub front_length : length o ≡ k + m
  front_length = rw f.is (length-append w (zeros m) ∙ rw (f.size.long, length-zeros m))

  pub front-drop : drop k o ≡ zeros m
  front-drop = rw f.is (drop_at w (zeros m) k f.size.long)

  pub front-take : take k o ≡ w
  front-take = rw f.is (take_at w (zeros m) k f.size.long)

-- the next field, of n bytes, which leaves m zeros
pub front-then : {o w : List ℕ} {k j : ℕ} → Front o w k j → (p v : List ℕ) {n : ℕ} → Long v n → p ≡ over o k v → (m : ℕ) → j ≡ n + m
    → Front p (w ++ v) (k + n) m
front-then {o} {w} {k} {j} f p v l e m g =
    record {
      is = rw (e, f.is) (over-front-at w v k j m (sym f.size.long) (g ∙ rw l.long));
      size = long-append f.size l;
    }

-- the next text, which zeros fill up to 32 bytes
pub long-padded : (v : List ℕ) → length v ≤ 32 → Long (padded v) 32
long-padded v h = record { long = length-padded v h }

pub front-text : {o w : List ℕ} {k j : ℕ} → Front o w k j → (p v : List ℕ) → length v ≤ 32 → p ≡ over o k v → (m : ℕ) → j ≡ 32 + m
    → Front p (w ++ padded v) (k + 32) m
unfolding padded
front-text {o} {w} {k} {j} f p v h e m g =
    let r = 32 - length v in
    let q : j ≡ length v + (r + m) = omega arith in
    record {
      is =
          rw (e, f.is) (over-front-at w v k j (r + m) (sym f.size.long) q
          ∙ rw (← zeros-append r m) (simp append_assoc));
      size = long-append f.size (long-padded v h);
    }

-- what is written over zeros leaves the other zeros
pub run-zeros : {d o : List ℕ} {k n : ℕ} {s : List ℕ} → Run d o k n s → (j m : ℕ) → drop k d ≡ zeros j → j ≡ n + m
    → o ≡ take k d ++ (s ++ zeros m)
unfolding over
run-zeros {d} {o} {k} {n} {s} r j m z e =
    let g : drop (k + length s) d ≡ zeros m =
    rw r.size.long (sym (drop-drop n k d) ∙ rw (z, e) (drop-zeros n m))
    in
    r.is ∙ rw g

-- ---- operation and encryption share a byte

pub nibbles-small : (h : Nibbles) → h.high ≤ 15 → h.low ≤ 15 → nibbles_valid h ≡ true
unfolding nibbles_valid
nibbles-small h a b = and_both _ _ (le-leb h.high 15 a) (le-leb h.low 15 b)

pub use-bounds : (i : M17Info) → WritableM17 i → (i.operation ≤ 3) × (i.encryption ≤ 2)
unfolding operation_ok encryption_ok
use-bounds i g =
    let o : leb 1 i.operation && leb i.operation 3 ≡ true = and_left _ _ g.use-of in (
      leb-true i.operation 3 (and_right (leb 1 i.operation) _ o),
      leb-true i.encryption 2 (and_right (leb 1 i.operation && leb i.operation 3) _ g.use-of),
    )

pub use-nibbles : (i : M17Info) → WritableM17 i → nibbles_valid (record { high = i.operation; low = i.encryption }) ≡ true
use-nibbles i g =
    let u = use-bounds i g in
    nibbles-small (record { high = i.operation; low = i.encryption }) (omega arith) (omega arith)

-- ---- the record's parts

pub long-head : (mode : ℕ) (c : Common) → Long (head_bytes mode c) 13
unfolding head_bytes little_bytes
long-head mode c = record { long = refl }

pub long-location : (l : Location) → Long (location_bytes l) 8
unfolding location_bytes little_bytes
long-location l = record { long = refl }

pub long-info : (info : Info) → Long (info_bytes info) 5
unfolding info_bytes little_bytes
long-info (Fm i) = record { long = refl }
long-info (Dmr i) = record { long = refl }
long-info (M17 i) = record { long = refl }

-- the lists after each part but the last: o, p, q and r
module _ (o p q r name description : List ℕ) (mode : ℕ) (common : Common) where
  pub record-front : length name ≤ 32 → length description ≤ 32 → o ≡ over (zeros 90) 0 (head_bytes mode common) → p ≡ over o 13 name
      → q ≡ over p 45 description → r ≡ over q 77 (location_bytes common.location)
      → Front r (((head_bytes mode common ++ padded name) ++ padded description) ++ location_bytes common.location) 85 5
  record-front h k e f g i =
      let none : Front (zeros 90) [] 0 90 = record { is = refl; size = record { long = refl } } in
      let head = front-then none o (head_bytes mode common) (long-head mode common) e 77 refl in
      let text = front-text head p name h f 45 refl in
      let second = front-text text q description k g 13 refl in
      front-then second r (location_bytes common.location) (long-location common.location) i 5 refl

-- and after the last
pub record-whole : (r t name description : List ℕ) (mode : ℕ) (common : Common) (info : Info) → mode ≡ mode_number info
    → Front r (((head_bytes mode common ++ padded name) ++ padded description) ++ location_bytes common.location) 85 5
    → t ≡ take 85 r ++ info_bytes info → t ≡ channel_bytes name description common info
unfolding channel_bytes
record-whole r t name description mode common info m f e = rw (e, front-take f, m) (simp append_assoc)

module _ (name description : List ℕ) (common : Common) (info : Info) where
  pub long-record : Writable name description common info → Long (channel_bytes name description common info) 90
  unfolding channel_bytes
  long-record g =
      long-append (long-head (mode_number info) common)
      (long-append (long-padded name (given_ok-length name g.text))
      (long-append (long-padded description (given_ok-length description g.second))
      (long-append (long-location common.location) (long-info info))))

-- ---- what is valid in this room

module _ (size : ℕ) (name description : List ℕ) (common : Common) (info : Info) where
  -- is valid in 90 bytes
  pub rule_in_90 : channel_write_rule size name description common info ≡ Valid → channel_write_rule 90 name description common info ≡ Valid
  rule_in_90 h = rule-passes 90 name description common info (omega arith) (writable-by size name description common info h)

  -- and fits
  pub rule_fits : channel_write_rule size name description common info ≡ Valid → length (channel_bytes name description common info) ≤ size
  rule_fits h =
      rw (long-record name description common info (writable-by size name description common info h)).long
      (rule-room size name description common info h)
