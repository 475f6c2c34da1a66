-- A channel's value written to its record (document 01, "The refusals, by number"): a buffer that is too short, then the fields in order.
use Rattle.std.specs.Prelude.{ℕ, ◌&&◌, cond, List, [], ◌∷◌, ◌++◌, length, leb}
use Rattle.fields.specs.Bytes.{little_bytes}
use Rattle.text.specs.Text.{given_ok, padded}
use Rattle.fields.specs.Rule.{◌then◌, unless, written, Validity}
use Rattle.bits.specs.Packed.{number_flag_byte, number_flag_valid, nibbles_byte, nibbles_valid, signed_byte}
use Rattle.tones.specs.Tone.{tone_byte, tone_valid}
use Rattle.channel.specs.declared.Location.{Location}
use Rattle.channel.specs.declared.Common.{Common}
use Rattle.channel.specs.declared.Info.{Info}
use Rattle.channel.specs.declared.Info.TheVariants.{Fm, Dmr, M17}
use Rattle.channel.specs.Values.{mode_number, traits_number_flag, scan_list_ok, group_list_ok, latitude_ok, fraction_ok, latitude_fraction_ok, slot_ok, operation_ok, encryption_ok, contact_index_number}
use Rattle.format.specs.declared.refusals.Reason.TheVariants as reason

-- ---- writing: a buffer that is too short, then the fields in order

unfoldable pub head_write_rule : Common → Validity
head_write_rule c =
    unless (number_flag_valid (traits_number_flag c.traits)) reason.Value 1
    then unless (scan_list_ok c.scan_list) reason.Value 11
    then unless (group_list_ok c.group_list) reason.Value 12

unfoldable pub location_write_rule : Location → Validity
location_write_rule l =
    unless (latitude_ok l.latitude) reason.Value 77
    then unless (latitude_fraction_ok l.latitude l.latitude_e4) reason.Value 78
    then unless (fraction_ok l.longitude_e4) reason.Value 81

-- a written contact index is validated in the whole file only
unfoldable pub info_write_rule : Info → Validity
info_write_rule (Fm i) = unless (tone_valid i.receive) reason.Value 85 then unless (tone_valid i.transmit) reason.Value 86
info_write_rule (Dmr i) = unless (nibbles_valid i.colours) reason.Value 85 then unless (slot_ok i.slot) reason.Value 86
info_write_rule (M17 i) =
    unless (nibbles_valid i.access) reason.Value 85
    then unless (operation_ok i.operation && encryption_ok i.encryption) reason.Value 86

unfoldable pub channel_write_rule : ℕ → List ℕ → List ℕ → Common → Info → Validity
channel_write_rule size name description common info =
    unless (leb 90 size) reason.ShortBuffer 0
    then head_write_rule common
    then unless (given_ok name) reason.Text 13
    then unless (given_ok description) reason.Text 45
    then location_write_rule common.location
    then info_write_rule info

unfoldable pub head_bytes : ℕ → Common → List ℕ
head_bytes mode c =
    mode ∷ (number_flag_byte (traits_number_flag c.traits) ∷ (c.power ∷
    (little_bytes 4 c.receive_hz ++ (little_bytes 4 c.transmit_hz ++
    (c.scan_list ∷ (c.group_list ∷ []))))))

unfoldable pub location_bytes : Location → List ℕ
location_bytes l =
    signed_byte l.latitude ∷ (little_bytes 2 l.latitude_e4 ++
    (signed_byte l.longitude ∷ (little_bytes 2 l.longitude_e4 ++
    little_bytes 2 l.altitude_plus_500)))

-- the info's five bytes: FM has three pads, DMR one
unfoldable pub info_bytes : Info → List ℕ
info_bytes (Fm i) = tone_byte i.receive ∷ (tone_byte i.transmit ∷ (0 ∷ (0 ∷ (0 ∷ []))))
info_bytes (Dmr i) = nibbles_byte i.colours ∷ (i.slot ∷ (little_bytes 2 (contact_index_number i.contact) ++ (0 ∷ [])))
info_bytes (M17 i) =
    nibbles_byte i.access ∷ (nibbles_byte (record { high = i.operation; low = i.encryption }) ∷
    (cond i.position 1 0 ∷ little_bytes 2 (contact_index_number i.contact)))

unfoldable pub channel_bytes : List ℕ → List ℕ → Common → Info → List ℕ
channel_bytes name description common info =
    head_bytes (mode_number info) common ++ (padded name ++ (padded description ++ (location_bytes common.location ++ info_bytes info)))

-- the later contents of a writer's buffer
unfoldable pub channel_written : List ℕ → List ℕ → List ℕ → Common → Info → List ℕ
channel_written out name description common info =
    written (channel_write_rule (length out) name description common info) out (channel_bytes name description common info)
