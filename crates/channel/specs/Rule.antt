-- Channels (document 01, "The file"): mode at 0 (0 FM, 1 DMR, 2 M17), traits at 1, power at 2 (any), receive and transmit frequency in
-- Hz at 3 and 7 (any), scan list at 11 (0 to 250), group list at 12 (0 to 128), name at 13, description at 45, location at 77, info at 85.
use Rattle.std.specs.Prelude.{ℕ, ◌+◌, Bool, ◌&&◌, cond, List, length, get_or, leb, eqb, None, Option}
use Rattle.fields.specs.Bytes.{part, num}
use Rattle.text.specs.Text.{text_ok}
use Rattle.fields.specs.Rule.{◌then◌, field, inside, Validity}
use Rattle.bits.specs.Packed.{number_flag_ok, nibbles_of, signed_of}
use Rattle.tones.specs.Tone.{tone_ok}
use Rattle.channel.specs.Values.{mode_ok, scan_list_ok, group_list_ok, latitude_ok, fraction_ok, latitude_fraction_ok, slot_ok, operation_ok, encryption_ok, dmr_contact_at, m17_contact_at, contact_index_of}
use Rattle.format.specs.declared.refusals.Reason.TheVariants as reason

-- ---- the rule: fields in file order

-- by whether the traits byte is within its rule
abbrev pub head_rule_by : Bool → List ℕ → ℕ → Validity
head_rule_by traits_ok s base =
    field s base 0 1 reason.Mode (mode_ok (get_or s 0 0))
    then field s base 1 1 reason.Value traits_ok
    then inside s base 2 1
    then inside s base 3 4
    then inside s base 7 4
    then field s base 11 1 reason.Value (scan_list_ok (get_or s 11 0))
    then field s base 12 1 reason.Value (group_list_ok (get_or s 12 0))

unfoldable pub head_rule : List ℕ → ℕ → Validity
head_rule s base = head_rule_by (number_flag_ok (get_or s 1 0)) s base

unfoldable pub texts_rule : List ℕ → ℕ → Validity
texts_rule s base =
    field s base 13 32 reason.Text (text_ok (part s 13 32))
    then field s base 45 32 reason.Text (text_ok (part s 45 32))

-- latitude floor and ten-thousandths, longitude floor (any) and ten-thousandths, altitude in metres plus 500 (any)
unfoldable pub location_rule : List ℕ → ℕ → Validity
location_rule s base =
    field s base 77 1 reason.Value (latitude_ok (signed_of (get_or s 77 0)))
    then field s base 78 2 reason.Value (latitude_fraction_ok (signed_of (get_or s 77 0)) (num s 78 2))
    then inside s base 80 1
    then field s base 81 2 reason.Value (fraction_ok (num s 81 2))
    then inside s base 83 2

-- receive and transmit tone, three pads
unfoldable pub fm_rule : List ℕ → ℕ → Validity
fm_rule s base =
    field s base 85 1 reason.Value (tone_ok (get_or s 85 0))
    then field s base 86 1 reason.Value (tone_ok (get_or s 86 0))
    then field s base 87 1 reason.Value (eqb (get_or s 87 0) 0)
    then field s base 88 1 reason.Value (eqb (get_or s 88 0) 0)
    then field s base 89 1 reason.Value (eqb (get_or s 89 0) 0)

-- colour codes (any), timeslot, contact index, pad. Whether the index names a contact of the file is the file's to say.
unfoldable pub dmr_rule : List ℕ → ℕ → Bool → Validity
dmr_rule s base named =
    inside s base 85 1
    then field s base 86 1 reason.Value (slot_ok (get_or s 86 0))
    then field s base dmr_contact_at 2 reason.ContactIndex named
    then field s base 89 1 reason.Value (eqb (get_or s 89 0) 0)

-- access numbers (any), operation with encryption, position flag, contact index
unfoldable pub m17_rule : List ℕ → ℕ → Bool → Validity
m17_rule s base named =
    inside s base 85 1
    then field s base 86 1 reason.Value (operation_ok (nibbles_of (get_or s 86 0)).high && encryption_ok (nibbles_of (get_or s 86 0)).low)
    then field s base 87 1 reason.Value (leb (get_or s 87 0) 1)
    then field s base m17_contact_at 2 reason.ContactIndex named

unfoldable pub info_rule : List ℕ → ℕ → Bool → Validity
info_rule s base named =
    cond (eqb (get_or s 0 0) 0) (fm_rule s base)
    (cond (eqb (get_or s 0 0) 1) (dmr_rule s base named)
    (m17_rule s base named))

-- by what refuses its head
abbrev pub channel_rule_by : Validity → List ℕ → ℕ → Bool → Validity
channel_rule_by head s base named = head then texts_rule s base then location_rule s base then info_rule s base named

-- what reading a channel's bytes s refuses, a record that starts at base
unfoldable pub channel_rule : List ℕ → ℕ → Bool → Validity
channel_rule s base named = channel_rule_by (head_rule s base) s base named

-- ---- the contact index of a record

-- the index at k; nobody where its two bytes are not all there
abbrev pub index_at : List ℕ → ℕ → Option ℕ
index_at s k = cond (leb (k + 2) (length s)) (contact_index_of (num s k 2)) None

-- the contact index of a DMR or M17 channel, where the record holds it whole; any other record has none
unfoldable pub named_contact : List ℕ → Option ℕ
named_contact s =
    cond (eqb (get_or s 0 0) 1) (index_at s dmr_contact_at)
    (cond (eqb (get_or s 0 0) 2) (index_at s m17_contact_at)
    None)
