-- Contacts (document 01, "The file"): name at 0, mode at 32 (1 DMR, 2 M17). M17: a six-byte address at 33. DMR: id at 33 (4 bytes,
-- any), settings at 37, pad at 38 (zero). Which addresses there are, the edition says (document 02, [10]).
use Rattle.std.specs.Prelude.{Result, ℕ, Bool, false, ◌||◌, cond, List, [], ◌∷◌, ◌++◌, length, get_or, leb, eqb, Ok, Err}
use Rattle.fields.specs.Bytes.{part, num, big, little_bytes, big_bytes, zeros}
use Rattle.text.specs.Text.{text_ok, given_ok, padded}
use Rattle.fields.specs.Rule.{◌then◌, unless, field, inside, written, Validity}
use Rattle.bits.specs.Packed.{number_flag_of, number_flag_byte, number_flag_ok, number_flag_valid}
use Rattle.bits.specs.declared.NumberFlag.{NumberFlag}
use Rattle.m17.specs.declared.Edition.{Edition}
use Rattle.m17.specs.Address.{address_ok, address_for, address_number, address_valid}
use Rattle.contact.specs.declared.Settings.{Settings}
use Rattle.contact.specs.declared.ContactInfo.{ContactInfo}
use Rattle.contact.specs.declared.ContactInfo.TheVariants.{M17, Dmr}
use Rattle.contact.specs.declared.Contact.{Contact}
use Rattle.format.specs.declared.refusals.Reason.TheVariants as reason
use Rattle.format.specs.declared.refusals.Refusal.{Refusal}

-- ---- settings: contact type in bits 0 and 1 (0 to 2), rx tone in bit 2, the rest zero (document 02, [5])

unfoldable pub settings_of : ℕ → Settings
settings_of b = record { contact_type = (number_flag_of b).number; rx_tone = (number_flag_of b).flag }

unfoldable pub settings_number_flag : Settings → NumberFlag
settings_number_flag t = record { number = t.contact_type; flag = t.rx_tone }

-- ---- the rule: fields in file order

unfoldable pub mode_ok : ℕ → Bool
mode_ok m = eqb m 1 || eqb m 2

-- by whether the settings byte is within its rule
abbrev pub dmr_rule_by : Bool → List ℕ → ℕ → Validity
dmr_rule_by settings_ok s base =
    inside s base 33 4
    then field s base 37 1 reason.Value settings_ok
    then field s base 38 1 reason.Value (eqb (get_or s 38 0) 0)

unfoldable pub dmr_rule : List ℕ → ℕ → Validity
dmr_rule s base = dmr_rule_by (number_flag_ok (get_or s 37 0)) s base

unfoldable pub m17_rule : Edition → List ℕ → ℕ → Validity
m17_rule e s base = field s base 33 6 reason.Address (address_ok e (big (part s 33 6)))

-- by what refuses a DMR contact's info
abbrev pub contact_rule_by : Edition → Validity → List ℕ → ℕ → Validity
contact_rule_by e dmr s base =
    field s base 0 32 reason.Text (text_ok (part s 0 32))
    then field s base 32 1 reason.Mode (mode_ok (get_or s 32 0))
    then cond (eqb (get_or s 32 0) 1) dmr (m17_rule e s base)

-- what reading a contact's bytes s refuses, a record that starts at base
unfoldable pub contact_rule : Edition → List ℕ → ℕ → Validity
contact_rule e s base = contact_rule_by e (dmr_rule s base) s base

-- ---- a valid record's value

-- by its settings
abbrev pub info_of_by : Settings → List ℕ → ContactInfo
info_of_by settings s =
    cond (eqb (get_or s 32 0) 1)
    (Dmr (record { id = num s 33 4; settings = settings }))
    (M17 (address_for (big (part s 33 6))))

unfoldable pub info_of : List ℕ → ContactInfo
info_of s = info_of_by (settings_of (get_or s 37 0)) s

-- by its info
abbrev pub contact_of_by : ContactInfo → List ℕ → Contact
contact_of_by info s = record { name = part s 0 32; info = info }

unfoldable pub contact_of : List ℕ → Contact
contact_of s = contact_of_by (info_of s) s

-- what stands beside a refusal: no name, DMR id 0, type 0 (group), rx tone off
unfoldable pub blank_contact : Contact
blank_contact = record { name = zeros 32; info = Dmr (record { id = 0; settings = record { contact_type = 0; rx_tone = false } }) }

-- what a reader answers: the record's value where it is valid, else the refusal
unfoldable pub contact_answer : Validity → List ℕ → Result Contact Refusal
contact_answer (Ok u) s = Ok (contact_of s)
contact_answer (Err e) s = Err e

-- ---- writing: a buffer that is too short, then the fields in order

unfoldable pub info_write_rule : Edition → ContactInfo → Validity
info_write_rule e (M17 a) = unless (address_valid e a) reason.Address 33
info_write_rule e (Dmr d) = unless (number_flag_valid (settings_number_flag d.settings)) reason.Value 37

unfoldable pub contact_write_rule : Edition → ℕ → List ℕ → ContactInfo → Validity
contact_write_rule e size name info =
    unless (leb 39 size) reason.ShortBuffer 0
    then unless (given_ok name) reason.Text 0
    then info_write_rule e info

-- a contact's mode by the paper's number
abbrev pub mode_number : ContactInfo → ℕ
mode_number (Dmr d) = 1
mode_number (M17 a) = 2

-- the mode and the bytes behind it
unfoldable pub info_bytes : ContactInfo → List ℕ
info_bytes (M17 a) = mode_number (M17 a) ∷ big_bytes 6 (address_number a)
info_bytes (Dmr d) = mode_number (Dmr d) ∷ (little_bytes 4 d.id ++ (number_flag_byte (settings_number_flag d.settings) ∷ (0 ∷ [])))

unfoldable pub contact_bytes : List ℕ → ContactInfo → List ℕ
contact_bytes name info = padded name ++ info_bytes info

-- the later contents of a writer's buffer
unfoldable pub contact_written : Edition → List ℕ → List ℕ → ContactInfo → List ℕ
contact_written e out name info = written (contact_write_rule e (length out) name info) out (contact_bytes name info)
