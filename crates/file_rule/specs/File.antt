-- The file (document 01, "The file" and "The refusals, by number"): header, contacts, channels, the table of bank offsets, banks.
-- Reading it gives 1 first, then fields in file order, the first bad one answering. Addresses are read by an edition (document 02, [10]), which only contacts know.
use Rattle.std.specs.Prelude.{ℕ, ◌+◌, Bool, true, ◌&&◌, List, length, get_or, leb, ltb, eqb}
use Rattle.fields.specs.Bytes.{part}
use Rattle.fields.specs.Rule.{◌then◌, unless, each}
use Rattle.m17.specs.declared.Edition.{Edition}
use Rattle.contact.specs.Contact.{contact_rule}
use Rattle.channel.specs.Rule.{channel_rule, named_contact}
use Rattle.layout.specs.Places.{contact_count, channel_count, contact_place, channel_place}
use Rattle.layout.specs.Header.{header_rule}
use Rattle.layout.specs.Banks.{offsets_rule, banks_rule}
use Rattle.std.specs.Prelude.{Some, None, Option}
use Rattle.format.specs.declared.refusals.Reason.TheVariants as reason
use Rattle.fields.specs.Rule.{Validity}

-- ---- contacts

abbrev pub contact_at : Edition → List ℕ → ℕ → Validity
contact_at e f p = contact_rule e (part f p 39) p

-- by what refuses the contact at a place
abbrev pub contacts_rule_by : (ℕ → Validity) → List ℕ → Validity
contacts_rule_by rule f = each rule (contact_count f) 39 (contact_place 0)

unfoldable pub contacts_rule : Edition → List ℕ → Validity
contacts_rule e f = contacts_rule_by (contact_at e f) f

-- ---- channels: a contact index is 65,535, or below the contact count and names a contact of the channel's own mode

unfoldable pub names_contact : List ℕ → ℕ → Option ℕ → Bool
names_contact f mode None = true
names_contact f mode (Some i) = ltb i (contact_count f) && eqb (get_or f (contact_place i + 32) 0) mode

unfoldable pub index_ok : List ℕ → List ℕ → Bool
index_ok f s = names_contact f (get_or s 0 0) (named_contact s)

abbrev pub channel_at : List ℕ → ℕ → Validity
channel_at f p = channel_rule (part f p 90) p (index_ok f (part f p 90))

-- by what refuses the channel at a place
abbrev pub channels_rule_by : (ℕ → Validity) → List ℕ → Validity
channels_rule_by rule f = each rule (channel_count f) 90 (channel_place f 0)

unfoldable pub channels_rule : List ℕ → Validity
channels_rule f = channels_rule_by (channel_at f) f

-- ---- the whole file

-- by what refuses its contacts and its channels
abbrev pub file_rule_by : Validity → Validity → List ℕ → Validity
file_rule_by contacts channels f =
    unless (leb (length f) 1_048_576) reason.TooLong 0
    then header_rule f
    then contacts
    then channels
    then offsets_rule f
    then banks_rule f

unfoldable pub file_rule : Edition → List ℕ → Validity
file_rule e f = file_rule_by (contacts_rule e f) (channels_rule f) f
