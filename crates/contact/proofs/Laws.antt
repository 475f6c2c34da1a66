-- Laws of contact records: what a rule that gives `Valid` says of the bytes and what makes it so, what a writer accepts, how its steps make
-- the record, and that only the record's own bytes count.
use Prim.Native.Nat.{ℕ, ◌+◌, ◌-◌, ◌≤◌, ◌<◌}
use mathlib.Core.Path.{◌≡◌, refl, sym, ◌∙◌}
use mathlib.Core.Logic.{◌⊎◌, inl, inr}
use mathlib.Core.Bool.{Bool, true, false, cond}
use mathlib.Core.List.{List, [], ◌∷◌, ◌++◌, append_assoc, append-nil}
use native.Mathlib.Omega.{arith}
use native.Mathlib.Nat.{zero-add}
use borrow.Author.Tests.{eqb-true, eq-eqb, leb-true, leb-false, le-leb, lt-leb}
use lib.Dec.{eqb, leb}
use lib.ListN.{length, get_or, take, drop, drop_of_length-le, length-append, length-take}
use lib.Seq.{get_or-take, drop-drop, drop_at, take_at}
use Rattle.fields.specs.Bytes.{part, big, zeros, over, little_bytes, big_bytes}
use Rattle.text.specs.Text.{text_ok, given_ok, padded}
use Rattle.fields.specs.Rule.{field_of, Valid}
use Rattle.fields.proofs.Laws.{then-valid, both-valid, unless-valid, unless-passes, field-valid, field-passes}
use Rattle.fields.proofs.Laws.{part-part, over_zero, drop-zeros, zeros-append, length-zeros, over-then}
use Rattle.fields.proofs.Laws.{Long, long-byte, long-append, long-little, long-big}
use Rattle.text.proofs.Laws.{length-padded, given_ok-length}
use Rattle.bits.specs.Packed.{number_flag_ok, number_flag_byte, number_flag_valid}
use Rattle.m17.specs.Address.{address_ok, address_number, address_valid}
use Rattle.m17.specs.declared.Address.{Address}
use Rattle.m17.specs.declared.Edition.{Edition}
use Rattle.contact.specs.declared.ContactInfo.{ContactInfo}
use Rattle.contact.specs.declared.ContactInfo.TheVariants.{M17, Dmr}
use Rattle.contact.specs.declared.DmrContact.{DmrContact}
use Rattle.contact.specs.Contact.{mode_ok, dmr_rule, m17_rule, contact_rule}
use Rattle.contact.specs.Contact.{info_of, contact_of}
use Rattle.contact.specs.Contact.{info_bytes, contact_bytes, settings_number_flag, info_write_rule, contact_write_rule}
use Rattle.format.specs.declared.refusals.Reason.TheVariants as reason
use Rattle.format.specs.declared.refusals.Reason.{Reason}

-- ---- what a rule that gives `Valid` says

pub record ValidDmr (s : List ℕ) : Type 0 where
  pub whole : 39 ≤ length s
  pub mode : get_or s 32 0 ≡ 1
  pub settings : number_flag_ok (get_or s 37 0) ≡ true
  pub pad : get_or s 38 0 ≡ 0

pub record ValidM17 (ed : Edition) (s : List ℕ) : Type 0 where
  pub whole : 39 ≤ length s
  pub mode : get_or s 32 0 ≡ 2
  pub address : address_ok ed (big (part s 33 6)) ≡ true

abbrev pub ValidInfo : (ed : Edition) → List ℕ → Type 0
ValidInfo ed s = ValidDmr s ⊎ ValidM17 ed s

dmr-valid : (s : List ℕ) (base : ℕ) → get_or s 32 0 ≡ 1 → dmr_rule s base ≡ Valid → ValidDmr s
unfolding dmr_rule
dmr-valid s base m h =
    let a = then-valid _ _ h in
    let b = then-valid _ _ a.1 in
    let set = field-valid _ _ _ _ _ _ b.0 in
    let pad = field-valid _ _ _ _ _ _ b.1 in
    record { whole = pad.0; mode = m; settings = set.1; pad = eqb-true _ _ pad.1 }

m17-valid : (ed : Edition) (s : List ℕ) (base : ℕ) → get_or s 32 0 ≡ 2 → m17_rule ed s base ≡ Valid → ValidM17 ed s
unfolding m17_rule
m17-valid ed s base m h = let a = field-valid _ _ _ _ _ _ h in record { whole = a.0; mode = m; address = a.1 }

info-valid : (ed : Edition) (s : List ℕ) (base : ℕ) (t : Bool) → eqb (get_or s 32 0) 1 ≡ t → mode_ok (get_or s 32 0) ≡ true
    → cond t (dmr_rule s base) (m17_rule ed s base) ≡ Valid → ValidInfo ed s
unfolding mode_ok
info-valid ed s base true e m h = inl (dmr-valid s base (eqb-true _ _ e) h)
info-valid ed s base false e m h = inr (m17-valid ed s base (eqb-true _ _ (rw e at m)) h)

pub contact-valid : (ed : Edition) (s : List ℕ) (base : ℕ) → contact_rule ed s base ≡ Valid → (text_ok (part s 0 32) ≡ true) × ValidInfo ed s
unfolding contact_rule
contact-valid ed s base h =
    let a = then-valid _ _ h in
    let b = then-valid _ _ a.1 in
    let name = field-valid _ _ _ _ _ _ a.0 in
    let mode = field-valid _ _ _ _ _ _ b.0 in
    (name.1, info-valid ed s base (eqb (get_or s 32 0) 1) refl mode.1 b.1)

-- ---- and what makes it so

module _ (s : List ℕ) (base : ℕ) (text : text_ok (part s 0 32) ≡ true) where
  pub dmr-passes : (ed : Edition) → ValidDmr s → contact_rule ed s base ≡ Valid
  unfolding contact_rule mode_ok dmr_rule
  dmr-passes ed g =
      let w = g.whole in
      let m = eq-eqb _ 1 g.mode in
      both-valid _ _ (field-passes _ _ _ _ _ _ (omega arith) text)
      (both-valid _ _ (field-passes _ _ _ _ _ _ (omega arith) (rw m))
      (rw m
      (both-valid _ _ (field-passes _ _ _ _ _ _ (omega arith) refl)
      (both-valid _ _ (field-passes _ _ _ _ _ _ (omega arith) g.settings)
      (field-passes _ _ _ _ _ _ w (eq-eqb _ 0 g.pad))))))

  pub m17-passes : (ed : Edition) → ValidM17 ed s → contact_rule ed s base ≡ Valid
  unfolding contact_rule mode_ok m17_rule
  m17-passes ed g =
      let w = g.whole in
      both-valid _ _ (field-passes _ _ _ _ _ _ (omega arith) text)
      (both-valid _ _ (field-passes _ _ _ _ _ _ (omega arith) (rw g.mode))
      (rw g.mode (field-passes _ _ _ _ _ _ w g.address)))

-- ---- what a writer accepts

pub given-valid : (ed : Edition) (room : ℕ) (name : List ℕ) (info : ContactInfo) → contact_write_rule ed room name info ≡ Valid
    → (39 ≤ room) × (given_ok name ≡ true) × (info_write_rule ed info ≡ Valid)
unfolding contact_write_rule
given-valid ed room name info h =
    let a = then-valid _ _ h in
    let b = then-valid _ _ a.1 in
    (leb-true 39 room (unless-valid _ _ _ a.0), unless-valid _ _ _ b.0, b.1)

-- the same one by one, for the code
pub given_room : (ed : Edition) (room : ℕ) (name : List ℕ) (info : ContactInfo) → contact_write_rule ed room name info ≡ Valid → 39 ≤ room
given_room ed room name info h = (given-valid ed room name info h).0

pub given_name : (ed : Edition) (room : ℕ) (name : List ℕ) (info : ContactInfo) → contact_write_rule ed room name info ≡ Valid → given_ok name ≡ true
given_name ed room name info h = (given-valid ed room name info h).1

pub given_info : (ed : Edition) (room : ℕ) (name : List ℕ) (info : ContactInfo) → contact_write_rule ed room name info ≡ Valid → info_write_rule ed info ≡ Valid
given_info ed room name info h = (given-valid ed room name info h).2

pub rule-passes : (ed : Edition) (room : ℕ) (name : List ℕ) (info : ContactInfo) → 39 ≤ room → given_ok name ≡ true → info_write_rule ed info ≡ Valid
    → contact_write_rule ed room name info ≡ Valid
unfolding contact_write_rule
rule-passes ed room name info r n i =
    both-valid _ _ (unless-passes _ reason.ShortBuffer 0 (le-leb 39 room r)) (both-valid _ _ (unless-passes _ reason.Text 0 n) i)

pub m17-writable : (ed : Edition) (a : Address) → info_write_rule ed (M17 a) ≡ Valid → address_valid ed a ≡ true
unfolding info_write_rule
m17-writable ed a h = unless-valid _ _ _ h

pub dmr-writable : (ed : Edition) (d : DmrContact) → info_write_rule ed (Dmr d) ≡ Valid → number_flag_valid (settings_number_flag d.settings) ≡ true
unfolding info_write_rule
dmr-writable ed d h = unless-valid _ _ _ h

-- ---- the writer's steps

-- what stands behind the written bytes
over-tail : (d : List ℕ) (k : ℕ) (s t : List ℕ) {n : ℕ} → Long s n → drop (k + n) d ≡ t → over d k s ≡ take k d ++ (s ++ t)
unfolding over
over-tail d k s t l e = rw (l.long, e)

-- o is the record after the mode, p after the address
pub put-m17 : (d o p : List ℕ) (a : Address) (x : ℕ) → length d ≡ 39 → o ≡ over d 32 (2 ∷ []) → p ≡ over o 33 (big_bytes 6 x)
    → x ≡ address_number a → p ≡ take 32 d ++ info_bytes (M17 a)
unfolding info_bytes
put-m17 d o p a x l e f g =
    over-then o p d 32 (2 ∷ []) 33 (big_bytes 6 x) (long-byte 2) e f refl (omega arith)
    ∙ over-tail d 32 (2 ∷ big_bytes 6 x) [] (long-append (long-byte 2) (long-big 6 x)) (drop_of_length-le d {i = 39} (omega arith))
    ∙ rw (append-nil (big_bytes 6 x), g)

-- o is the record after the mode, p after the id, q after the settings
pub put-dmr : (d o p q : List ℕ) (r : DmrContact) (b : ℕ) → length d ≡ 39 → drop 32 d ≡ zeros 7 → o ≡ over d 32 (1 ∷ [])
    → p ≡ over o 33 (little_bytes 4 r.id) → q ≡ over p 37 (b ∷ []) → b ≡ number_flag_byte (settings_number_flag r.settings)
    → q ≡ take 32 d ++ info_bytes (Dmr r)
unfolding info_bytes zeros
put-dmr d o p q r b l z e f g h =
    let id = little_bytes 4 r.id in
    let long : Long (1 ∷ id) 5 = long-append (long-byte 1) (long-little 4 r.id) in
    let tail : drop 38 d ≡ 0 ∷ [] = sym (drop-drop 6 32 d) ∙ rw z in
    over-then p q d 32 (1 ∷ id) 37 (b ∷ []) long
    (over-then o p d 32 (1 ∷ []) 33 id (long-byte 1) e f refl (omega arith)) g refl (omega arith)
    ∙ over-tail d 32 ((1 ∷ id) ++ (b ∷ [])) (0 ∷ []) (long-append long (long-byte b)) tail
    ∙ rw (append_assoc id (b ∷ []) (0 ∷ []), h)

-- a name over the beginning of zeros
pub name-first : (name : List ℕ) (n : ℕ) → length name ≤ 32 → over (zeros (32 + n)) 0 name ≡ padded name ++ zeros n
unfolding padded
name-first name n h =
    let e : 32 + n ≡ length name + (32 - length name + n) = omega arith in
    over_zero (zeros (32 + n)) name
    ∙ rw (e, drop-zeros (length name) (32 - length name + n), ← zeros-append (32 - length name) n)
    (sym (append_assoc name (zeros (32 - length name)) (zeros n)))

module _ (o name : List ℕ) (given : given_ok name ≡ true) (e : o ≡ over (zeros 39) 0 name) where
  named : o ≡ padded name ++ zeros 7
  named = e ∙ name-first name 7 (given_ok-length name given)

  long-name : length (padded name) ≡ 32
  long-name = length-padded name (given_ok-length name given)

  pub named-length : length o ≡ 39
  named-length = rw (named, length-append, long-name, length-zeros 7)

  pub named-rest : drop 32 o ≡ zeros 7
  named-rest = rw named (drop_at (padded name) (zeros 7) 32 long-name)

  pub named-name : take 32 o ≡ padded name
  named-name = rw named (take_at (padded name) (zeros 7) 32 long-name)

pub length-info_bytes : (info : ContactInfo) → length (info_bytes info) ≡ 7
unfolding info_bytes
length-info_bytes (M17 a) = (long-append (long-byte 2) (long-big 6 (address_number a))).long
length-info_bytes (Dmr d) =
    let b = number_flag_byte (settings_number_flag d.settings) in
    (long-append (long-byte 1) (long-append (long-little 4 d.id) (long-append (long-byte b) (long-byte 0)))).long

pub length-contact_bytes : (name : List ℕ) (info : ContactInfo) → length name ≤ 32 → length (contact_bytes name info) ≡ 39
unfolding contact_bytes
length-contact_bytes name info h = rw (length-append, length-padded name h, length-info_bytes info)

pub record_fits : (name : List ℕ) (info : ContactInfo) → given_ok name ≡ true → length (contact_bytes name info) ≡ 39
record_fits name info h = length-contact_bytes name info (given_ok-length name h)

-- ---- only the record's own bytes count

leb-take : (s : List ℕ) (m w : ℕ) → m ≤ w → leb m (length (take w s)) ≡ leb m (length s)
leb-take s m w h = by (leb m (length s)) refl
  where
    by : (t : Bool) → leb m (length s) ≡ t → leb m (length (take w s)) ≡ t
    by true e = let f : m ≤ length s = leb-true m (length s) e in le-leb m (length (take w s)) (simp length-take (omega arith))
    by false e = let f : length s < m = leb-false m (length s) e in lt-leb m (length (take w s)) (simp length-take (omega arith))

pub field-take : (s : List ℕ) (w base k n : ℕ) (number : Reason) (ok : Bool) → k + n ≤ w
    → field_of (length (take w s)) base k n number ok ≡ field_of (length s) base k n number ok
unfolding field_of
field-take s w base k n number ok h = rw (leb-take s (k + n) w h)

get_or-record : (s : List ℕ) (i : ℕ) → i < 39 → get_or (take 39 s) i 0 ≡ get_or s i 0
get_or-record s i h = get_or-take 39 s i 0 h

part-record : (s : List ℕ) (k n : ℕ) → k + n ≤ 39 → part (take 39 s) k n ≡ part s k n
part-record s k n h = part-part s 0 39 k n h ∙ rw zero-add

module _ (s : List ℕ) (base : ℕ) where
  dmr-take : dmr_rule (take 39 s) base ≡ dmr_rule s base
  unfolding dmr_rule
  dmr-take =
      rw (
        field-take s 39 base 33 4 reason.Value true (omega arith),
        field-take s 39 base 37 1 reason.Value _ (omega arith),
        field-take s 39 base 38 1 reason.Value _ (omega arith),
        get_or-record s 37 (omega arith),
        get_or-record s 38 (omega arith),
      )

  m17-take : (ed : Edition) → m17_rule ed (take 39 s) base ≡ m17_rule ed s base
  unfolding m17_rule
  m17-take ed = rw (field-take s 39 base 33 6 reason.Address _ (omega arith), part-record s 33 6 (omega arith))

  pub rule-take : (ed : Edition) → contact_rule ed (take 39 s) base ≡ contact_rule ed s base
  unfolding contact_rule
  rule-take ed =
      rw (
        field-take s 39 base 0 32 reason.Text _ (omega arith),
        field-take s 39 base 32 1 reason.Mode _ (omega arith),
        part-record s 0 32 (omega arith),
        get_or-record s 32 (omega arith),
        dmr-take,
        m17-take ed,
      )

pub value-take : (s : List ℕ) → contact_of (take 39 s) ≡ contact_of s
unfolding contact_of info_of
value-take s =
    rw (
      part-record s 0 32 (omega arith),
      get_or-record s 32 (omega arith),
      part-record s 33 4 (omega arith),
      get_or-record s 37 (omega arith),
      part-record s 33 6 (omega arith),
    )
