-- The legacy reading: traits and settings from the top of the byte, as document 01 has them ("The file"), which document 02, [5] replaces. All else is read
-- as ever: the rules of records and of the file stand once, and take what differs.
use Rattle.std.specs.Prelude.{ℕ, ◌/◌, ◌%◌, Bool, ◌&&◌, List, get_or, leb, eqb}
use Rattle.bits.specs.declared.NumberFlag.{NumberFlag}
use Rattle.fields.specs.Bytes.{part}
use Rattle.m17.specs.declared.Edition.{Edition}
use Rattle.contact.specs.declared.Settings.{Settings}
use Rattle.contact.specs.declared.Contact.{Contact}
use Rattle.contact.specs.Contact.{dmr_rule_by, contact_rule_by, info_of_by, contact_of_by}
use Rattle.channel.specs.declared.Traits.{Traits}
use Rattle.channel.specs.declared.Channel.{Channel}
use Rattle.channel.specs.Rule.{head_rule_by, channel_rule_by}
use Rattle.channel_reader.specs.Reading.{common_of_by, channel_of_by}
use Rattle.file_rule.specs.File.{contacts_rule_by, index_ok, channels_rule_by, file_rule_by}
use Rattle.fields.specs.Rule.{Validity}

-- ---- traits and settings: a number in bits 7 and 6 (0 to 2), a flag in bit 5, the rest zero

unfoldable pub legacy_number_flag_of : ℕ → NumberFlag
legacy_number_flag_of b = record { number = b / 64; flag = eqb (b / 32 % 2) 1 }

unfoldable pub legacy_number_flag_ok : ℕ → Bool
legacy_number_flag_ok b = leb (b / 64) 2 && eqb (b % 32) 0

-- ---- contacts: contact type in bits 7 and 6 of settings, rx tone in bit 5

unfoldable pub legacy_contact_rule : Edition → List ℕ → ℕ → Validity
legacy_contact_rule e s base = contact_rule_by e (dmr_rule_by (legacy_number_flag_ok (get_or s 37 0)) s base) s base

unfoldable pub legacy_settings_of : ℕ → Settings
legacy_settings_of b = record { contact_type = (legacy_number_flag_of b).number; rx_tone = (legacy_number_flag_of b).flag }

unfoldable pub legacy_contact_of : List ℕ → Contact
legacy_contact_of s = contact_of_by (info_of_by (legacy_settings_of (get_or s 37 0)) s) s

-- ---- channels: bandwidth in bits 7 and 6 of traits, receive-only in bit 5

unfoldable pub legacy_channel_rule : List ℕ → ℕ → Bool → Validity
legacy_channel_rule s base named = channel_rule_by (head_rule_by (legacy_number_flag_ok (get_or s 1 0)) s base) s base named

unfoldable pub legacy_traits_of : ℕ → Traits
legacy_traits_of b = record { bandwidth = (legacy_number_flag_of b).number; receive_only = (legacy_number_flag_of b).flag }

unfoldable pub legacy_channel_of : List ℕ → Channel
legacy_channel_of s = channel_of_by (common_of_by (legacy_traits_of (get_or s 1 0)) s) s

-- ---- the whole file

abbrev pub legacy_contact_at : Edition → List ℕ → ℕ → Validity
legacy_contact_at e f p = legacy_contact_rule e (part f p 39) p

unfoldable pub legacy_contacts_rule : Edition → List ℕ → Validity
legacy_contacts_rule e f = contacts_rule_by (legacy_contact_at e f) f

abbrev pub legacy_channel_at : List ℕ → ℕ → Validity
legacy_channel_at f p = legacy_channel_rule (part f p 90) p (index_ok f (part f p 90))

unfoldable pub legacy_channels_rule : List ℕ → Validity
legacy_channels_rule f = channels_rule_by (legacy_channel_at f) f

unfoldable pub legacy_file_rule : Edition → List ℕ → Validity
legacy_file_rule e f = file_rule_by (legacy_contacts_rule e f) (legacy_channels_rule f) f
