-- Writing and reading undo each other, and a writer accepts exactly the values that valid records hold. All stated over
-- specs/Contact.antt: `contact_rule` is what `validate` answers, `contact_of` what `read` gives of a valid record, `contact_write_rule` what
-- `write` answers, and `contact_bytes` what it writes.
use Prim.Native.Nat.{ℕ, ◌-◌, ◌^◌, ◌≤◌, ◌<◌}
use mathlib.Core.Path.{◌≡◌, refl, ap, sym, ◌∙◌}
use mathlib.Core.Logic.{⊎_elim, ◌↔◌}
use mathlib.Core.Bool.{Bool, true, false, cond}
use mathlib.Core.List.{List, [], ◌∷◌, ◌++◌}
use native.Mathlib.Omega.{arith}
use lib.Dec.{eqb}
use lib.ListN.{length, get_or, take}
use Rattle.fields.specs.Bytes.{part, num, big, zeros, little_bytes, big_bytes}
use Rattle.text.specs.Text.{text_ok, text_of, given_ok, padded}
use Rattle.fields.proofs.Laws.{AllBytes, bytes-cons, bytes-nil, bytes-append, bytes-zeros, bytes-part, bytes-little_bytes, bytes-big_bytes}
use Rattle.fields.proofs.Laws.{Long, part-front, part-skip, get_or-skip, num-skip, part-all, part-add, part-cons, length_part}
use Rattle.fields.proofs.Laws.{long-little, num-front, num-lt, length-big_bytes, big-big_bytes, little_bytes-num, big_bytes-big, unless-passes}
use Rattle.text.proofs.Laws.{length-padded, given_ok-length, given_ok-plain, text_ok-padded, text_of-padded}
use Rattle.text.proofs.Laws.{given-text_of, padded-text_of, plain_text-bytes}
use Rattle.bits.specs.Packed.{number_flag_of, number_flag_byte}
use Rattle.bits.proofs.Laws.{number-flag-returns, number-flag-ok, number_flag_byte-of, number_flag_valid-of, number_flag_byte-lt}
use Rattle.m17.specs.Address.{address_for, address_number, address_valid}
use Rattle.m17.specs.declared.Address.{Address}
use Rattle.m17.proofs.Laws.{address_number-for, address_for-number, address_valid-for, address_ok-number, address_number-lt}
use Rattle.m17.specs.declared.Edition.{Edition}
use Rattle.contact.specs.declared.Settings.{Settings}
use Rattle.contact.specs.declared.DmrContact.{DmrContact}
use Rattle.contact.specs.declared.ContactInfo.{ContactInfo}
use Rattle.contact.specs.declared.ContactInfo.TheVariants.{M17, Dmr}
use Rattle.contact.specs.Contact.{contact_rule, info_of, contact_of, settings_of, settings_number_flag}
use Rattle.contact.specs.Contact.{info_write_rule, contact_write_rule, info_bytes, contact_bytes}
use Rattle.contact.proofs.Laws.{ValidDmr, ValidM17, contact-valid, dmr-passes, m17-passes}
use Rattle.contact.proofs.Laws.{given-valid, rule-passes, m17-writable, dmr-writable, length-contact_bytes}
use Rattle.format.specs.declared.refusals.Reason.TheVariants as reason
use Rattle.fields.specs.Rule.{Valid}

-- ---- a valid record has all its bytes

pub valid-length : (ed : Edition) (s : List ℕ) (base : ℕ) → contact_rule ed s base ≡ Valid → 39 ≤ length s
valid-length ed s base h = ⊎_elim (λ d. d.whole) (λ m. m.whole) (contact-valid ed s base h).1

-- the same, by a name that code can cite
pub valid_length : (ed : Edition) (s : List ℕ) (base : ℕ) → contact_rule ed s base ≡ Valid → 39 ≤ length s
valid_length ed s base h = valid-length ed s base h

-- ---- write, then read

-- what its type says of a DMR id: 32 bits
abbrev pub IdFits : ContactInfo → Type 0
IdFits (M17 a) = Unit
IdFits (Dmr d) = d.id < 2 ^ 32

-- what is read has it
pub read_fits : (s : List ℕ) → AllBytes s → IdFits (info_of s)
unfolding info_of
read_fits s b = by (eqb (get_or s 32 0) 1)
  where
    by : (t : Bool)
        → IdFits (cond t (Dmr (record { id = num s 33 4; settings = settings_of (get_or s 37 0) })) (M17 (address_for (big (part s 33 6)))))
    by true = num-lt s 33 4 b
    by false = tt

settings-number-flag : (t : Settings) → number_flag_of (number_flag_byte (settings_number_flag t)) ≡ settings_number_flag t → settings_of (number_flag_byte (settings_number_flag t)) ≡ t
unfolding settings_of settings_number_flag
settings-number-flag t e = rw e

-- what reading finds in a written record
module _ (name : List ℕ) (given : given_ok name ≡ true) where
  long-name : Long (padded name) 32
  long-name = record { long = length-padded name (given_ok-length name given) }

  name_back : (b : List ℕ) → part (padded name ++ b) 0 32 ≡ padded name
  name_back b = part-front long-name b

  text-back : (b : List ℕ) → text_ok (part (padded name ++ b) 0 32) ≡ true
  text-back b = rw (name_back b) (text_ok-padded name given)

  m17-back : (ed : Edition) (a : Address) → address_valid ed a ≡ true → big (part (padded name ++ info_bytes (M17 a)) 33 6) ≡ address_number a
  unfolding info_bytes
  m17-back ed a g =
      let n = address_number a in
      ap (λ (l : List ℕ). big l) (part-skip long-name (2 ∷ big_bytes 6 n) 1 6 ∙ part-all (big_bytes 6 n) 6 (omega (arith, length-big_bytes 6 n)))
      ∙ big-big_bytes 6 n (address_number-lt ed a g)

  id-back : (d : DmrContact) → d.id < 2 ^ 32 → num (padded name ++ info_bytes (Dmr d)) 33 4 ≡ d.id
  unfolding info_bytes
  id-back d fits =
      let rest = number_flag_byte (settings_number_flag d.settings) ∷ 0 ∷ [] in
      num-skip long-name (1 ∷ (little_bytes 4 d.id ++ rest)) 1 4 ∙ num-front rest 4 d.id fits

  settings-back : (d : DmrContact) → get_or (padded name ++ info_bytes (Dmr d)) 37 0 ≡ number_flag_byte (settings_number_flag d.settings)
  unfolding info_bytes
  settings-back d =
      let rest = number_flag_byte (settings_number_flag d.settings) ∷ 0 ∷ [] in
      get_or-skip long-name (1 ∷ (little_bytes 4 d.id ++ rest)) 5 ∙ get_or-skip (long-little 4 d.id) rest 0

  pad-back : (d : DmrContact) → get_or (padded name ++ info_bytes (Dmr d)) 38 0 ≡ 0
  unfolding info_bytes
  pad-back d =
      let rest = number_flag_byte (settings_number_flag d.settings) ∷ 0 ∷ [] in
      get_or-skip long-name (1 ∷ (little_bytes 4 d.id ++ rest)) 6 ∙ get_or-skip (long-little 4 d.id) rest 1

  mode-m17 : (a : Address) → get_or (padded name ++ info_bytes (M17 a)) 32 0 ≡ 2
  unfolding info_bytes
  mode-m17 a = get_or-skip long-name (2 ∷ big_bytes 6 (address_number a)) 0

  mode-dmr : (d : DmrContact) → get_or (padded name ++ info_bytes (Dmr d)) 32 0 ≡ 1
  unfolding info_bytes
  mode-dmr d = get_or-skip long-name _ 0

  whole : (info : ContactInfo) → 39 ≤ length (padded name ++ info_bytes info)
  unfolding contact_bytes
  whole info = omega (arith, length-contact_bytes name info (given_ok-length name given))

  rule-back : (ed : Edition) (base : ℕ) (info : ContactInfo) → info_write_rule ed info ≡ Valid → contact_rule ed (padded name ++ info_bytes info) base ≡ Valid
  rule-back ed base (M17 a) i =
      let g = m17-writable ed a i in
      m17-passes _ base (text-back _) ed
      (record { whole = whole (M17 a); mode = mode-m17 a; address = rw (m17-back ed a g) (address_ok-number ed a g) })
  rule-back ed base (Dmr d) i =
      dmr-passes _ base (text-back _) ed
      (record {
        whole = whole (Dmr d);
        mode = mode-dmr d;
        settings = rw (settings-back d) (number-flag-ok _ (dmr-writable ed d i));
        pad = pad-back d;
      })

  info-back : (ed : Edition) (info : ContactInfo) → IdFits info → info_write_rule ed info ≡ Valid → info_of (padded name ++ info_bytes info) ≡ info
  unfolding info_of
  info-back ed (M17 a) f i =
      let g = m17-writable ed a i in
      rw (mode-m17 a, m17-back ed a g, address_for-number ed a g)
  info-back ed (Dmr d) f i =
      rw (mode-dmr d, id-back d f, settings-back d, settings-number-flag d.settings (number-flag-returns _ (dmr-writable ed d i)))

-- a written record has 39 bytes
pub record-length : (ed : Edition) (name : List ℕ) (info : ContactInfo) → contact_write_rule ed 39 name info ≡ Valid → length (contact_bytes name info) ≡ 39
record-length ed name info h = length-contact_bytes name info (given_ok-length name (given-valid ed 39 name info h).1)

-- it is valid wherever it stands in a file
pub record-valid : (ed : Edition) (name : List ℕ) (info : ContactInfo) (base : ℕ) → contact_write_rule ed 39 name info ≡ Valid
    → contact_rule ed (contact_bytes name info) base ≡ Valid
unfolding contact_bytes
record-valid ed name info base h = let g = given-valid ed 39 name info h in rule-back name g.1 ed base info g.2

-- a value that is written is read again
pub write-then-read : (ed : Edition) (name : List ℕ) (info : ContactInfo) → IdFits info → contact_write_rule ed 39 name info ≡ Valid
    → (contact_rule ed (contact_bytes name info) 0 ≡ Valid)
    × (contact_of (contact_bytes name info) ≡ record { name = padded name; info = info })
unfolding contact_of contact_bytes
write-then-read ed name info fits h =
    let g = given-valid ed 39 name info h in
    (record-valid ed name info 0 h, rw (name_back name g.1 (info_bytes info), info-back name g.1 ed info fits g.2))

-- ---- read, then write

number-flag-settings : (b : ℕ) → settings_number_flag (settings_of b) ≡ number_flag_of b
unfolding settings_number_flag settings_of number_flag_of
number-flag-settings b = refl

module _ (s : List ℕ) (whole : 39 ≤ length s) where
  -- the six bytes behind the mode, as DMR has them
  dmr-part : part s 33 6 ≡ part s 33 4 ++ (get_or s 37 0 ∷ get_or s 38 0 ∷ [])
  dmr-part =
      part-add s 33 4 2
      ∙ rw (part-cons s 37 1 (omega arith), part-cons s 38 0 (omega arith))

  info-part : part s 0 39 ≡ part s 0 32 ++ (get_or s 32 0 ∷ part s 33 6)
  info-part = part-add s 0 32 7 ∙ rw (part-cons s 32 6 (omega arith))

  address-bytes : AllBytes s → big_bytes 6 (big (part s 33 6)) ≡ part s 33 6
  address-bytes b = rw (length_part s 33 6 whole) at (big_bytes-big (part s 33 6) (bytes-part s 33 6 b))

  name-bytes : text_ok (part s 0 32) ≡ true → padded (text_of (part s 0 32)) ≡ part s 0 32
  name-bytes t = padded-text_of (part s 0 32) t (length_part s 0 32 (omega arith))

  name-given : text_ok (part s 0 32) ≡ true → given_ok (text_of (part s 0 32)) ≡ true
  name-given t = given-text_of (part s 0 32) t (length_part s 0 32 (omega arith))

dmr-bytes : (s : List ℕ) → AllBytes s → ValidDmr s → info_bytes (info_of s) ≡ get_or s 32 0 ∷ part s 33 6
unfolding info_bytes info_of
dmr-bytes s b g =
    rw (
      g.mode,
      number-flag-settings (get_or s 37 0),
      number_flag_byte-of (get_or s 37 0) g.settings (b 37),
      little_bytes-num s 33 4 b (omega (arith, g.whole)),
      dmr-part s g.whole,
      g.pad,
    )

m17-bytes : (ed : Edition) (s : List ℕ) → AllBytes s → ValidM17 ed s → info_bytes (info_of s) ≡ get_or s 32 0 ∷ part s 33 6
unfolding info_bytes info_of
m17-bytes ed s b g = rw (g.mode, address_number-for (big (part s 33 6)), address-bytes s g.whole b)

dmr-info-given : (ed : Edition) (s : List ℕ) → ValidDmr s → info_write_rule ed (info_of s) ≡ Valid
unfolding info_write_rule info_of
dmr-info-given ed s g =
    rw (g.mode, number-flag-settings (get_or s 37 0)) (unless-passes _ reason.Value 37 (number_flag_valid-of (get_or s 37 0) g.settings))

m17-info-given : (ed : Edition) (s : List ℕ) → ValidM17 ed s → info_write_rule ed (info_of s) ≡ Valid
unfolding info_write_rule info_of
m17-info-given ed s g = rw g.mode (unless-passes _ reason.Address 33 (address_valid-for ed (big (part s 33 6)) g.address))

-- a valid record's values are accepted, and written they are the record again
pub read-then-write : (ed : Edition) (s : List ℕ) (base : ℕ) → AllBytes s → contact_rule ed s base ≡ Valid
    → (contact_write_rule ed 39 (text_of (contact_of s).name) (contact_of s).info ≡ Valid)
    × (contact_bytes (text_of (contact_of s).name) (contact_of s).info ≡ take 39 s)
unfolding contact_of contact_bytes
read-then-write ed s base b h =
    let g = contact-valid ed s base h in
    let w = valid-length ed s base h in
    let given = ⊎_elim (dmr-info-given ed s) (m17-info-given ed s) g.1 in
    let bytes = ⊎_elim (dmr-bytes s b) (m17-bytes ed s b) g.1 in (
      rule-passes ed 39 (text_of (part s 0 32)) (info_of s) (omega arith) (name-given s w g.0) given,
      rw (name-bytes s w g.0, bytes) (sym (info-part s w)),
    )

-- ---- what a writer refuses

info-all-bytes : (ed : Edition) (info : ContactInfo) → info_write_rule ed info ≡ Valid → AllBytes (info_bytes info)
unfolding info_bytes
info-all-bytes ed (M17 a) i = bytes-cons 2 (big_bytes 6 (address_number a)) (omega arith) (bytes-big_bytes 6 (address_number a))
info-all-bytes ed (Dmr d) i =
    let b = number_flag_byte (settings_number_flag d.settings) in
    bytes-cons 1 (little_bytes 4 d.id ++ (b ∷ 0 ∷ [])) (omega arith)
    (bytes-append (little_bytes 4 d.id) (b ∷ 0 ∷ []) (bytes-little_bytes 4 d.id)
    (bytes-cons b (0 ∷ []) (number_flag_byte-lt _ (dmr-writable ed d i)) (bytes-cons 0 [] (omega arith) bytes-nil)))

-- a written record's bytes are bytes
pub record-all-bytes : (ed : Edition) (name : List ℕ) (info : ContactInfo) → contact_write_rule ed 39 name info ≡ Valid → AllBytes (contact_bytes name info)
unfolding contact_bytes padded
record-all-bytes ed name info h =
    let g = given-valid ed 39 name info h in
    bytes-append (padded name) (info_bytes info)
    (bytes-append name (zeros (32 - length name)) (plain_text-bytes name (given_ok-plain name g.1)) (bytes-zeros (32 - length name)))
    (info-all-bytes ed info g.2)

-- a writer accepts exactly the values that some valid record holds
pub accepted-exactly : (ed : Edition) (name : List ℕ) (info : ContactInfo) → IdFits info
    → (contact_write_rule ed 39 name info ≡ Valid)
    ↔ ((s : List ℕ) × AllBytes s × (contact_rule ed s 0 ≡ Valid) × (text_of (part s 0 32) ≡ name) × (info_of s ≡ info))
unfolding contact_bytes contact_of
accepted-exactly ed name info fits = (
  λ h.
      let g = given-valid ed 39 name info h in (
        contact_bytes name info,
        record-all-bytes ed name info h,
        record-valid ed name info 0 h,
        ap text_of (name_back name g.1 (info_bytes info)) ∙ text_of-padded name g.1,
        info-back name g.1 ed info fits g.2,
      ),
  λ r. rw (r.3, r.4) at (read-then-write ed r.0 0 r.1 r.2).0,
)
