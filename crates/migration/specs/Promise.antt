-- What document 02, [5] asks of migrating ("carries an old file over"), as types; proofs/Migrated.antt proves them. They speak of `migrated`, which the call makes of an
-- accepted file, and leaves a refused one: its contract, by `migrated_by` (src/lib.rt). Addresses are read by one edition throughout.
use Rattle.std.specs.Prelude.{Ok, ℕ, ◌+◌, ◌*◌, ◌<◌, ◌≡◌, List, length, get_or}
use Rattle.fields.specs.Bytes.{part, AllBytes}
use Rattle.m17.specs.declared.Edition.{Edition}
use Rattle.m17.specs.declared.Edition.TheVariants.{Older, Newer}
use Rattle.layout.specs.Places.{contact_count, channel_count, bank_count, counts_of, contact_place, channel_place}
use Rattle.layout.specs.Banks.{bank_place, entry_count}
use Rattle.file_rule.specs.File.{file_rule}
use Rattle.validation.specs.Validation.{validation}
use Rattle.entries.specs.Entry.{entry_step}
use Rattle.codeplug.specs.Read.{header_of, header_read, contact_read, channel_read, bank_of, bank_read, entry_read}
use Rattle.journal.specs.Promise.{EveryListFrom}
use Rattle.edits.specs.Editing.{editing}
use Rattle.edits.specs.Demand.{OfBytes}
use Rattle.legacy.specs.Reading.{legacy_contact_of, legacy_channel_of, legacy_file_rule}
use Rattle.legacy.specs.Migration.{migrated, migrated_by}
use Rattle.legacy_validation.specs.Validation.{legacy_validation}
use Rattle.fields.specs.Rule.{Valid, Refused}
use Rattle.format.specs.declared.refusals.Reason.{Reason}
use Rattle.format.specs.declared.refusals.Reason.TheVariants as reason

-- ---- the two readings agree: validation of the migrated bytes answers what the legacy reading answered, counts and refusals, whatever the bytes

abbrev pub ReadingsAgree : Type 0
ReadingsAgree = (e : Edition) (f : List ℕ) → AllBytes f → validation e (migrated f) ≡ legacy_validation e f

-- ---- a legacy file that the older edition of addresses accepts is answered by the newer alike (document 02, [10])

abbrev pub LegacyOlderInNewer : Type 0
LegacyOlderInNewer =
    (f : List ℕ) → AllBytes f → legacy_file_rule Older f ≡ Valid
    → (legacy_validation Newer f ≡ legacy_validation Older f) × (migrated_by (legacy_file_rule Newer f) f ≡ migrated_by (legacy_file_rule Older f) f)

-- ---- every field reads as it did: m by the new reading, f by the legacy one. (What no reader gives, magic, version, offsets and pads, is among the other bytes below.)

pub record ReadsTheSame (e : Edition) (f m : List ℕ) : Type 0 where
  pub accepted : file_rule e m ≡ Valid
  pub counts : counts_of m ≡ counts_of f
  pub header : header_read e m ≡ Ok (header_of f)
  pub contact : (n : ℕ) → n < contact_count f → contact_read e m n ≡ Ok (legacy_contact_of (part f (contact_place n) 39))
  pub channel : (n : ℕ) → n < channel_count f → channel_read e m n ≡ Ok (legacy_channel_of (part f (channel_place f n) 90))
  pub bank : (n : ℕ) → n < bank_count f → bank_read e m n ≡ Ok (bank_of (part f (bank_place f n) 34))
  pub entry : (n i : ℕ) → n < bank_count f
      → entry_read e m n i ≡ entry_step (part f (bank_place f n + 34) (entry_count f (bank_place f n) * 2)) i

abbrev pub FieldsStay : Type 0
FieldsStay = (e : Edition) (f : List ℕ) → AllBytes f → legacy_file_rule e f ≡ Valid → ReadsTheSame e f (migrated f)

-- ---- every other byte and the length stay

-- i is the place of a DMR contact's settings
abbrev pub SettingsPlace : List ℕ → ℕ → Type 0
SettingsPlace f i = (n : ℕ) × ((n < contact_count f) × ((get_or f (contact_place n + 32) 0 ≡ 1) × (i ≡ contact_place n + 37)))

-- i is the place of a channel's traits
abbrev pub TraitsPlace : List ℕ → ℕ → Type 0
TraitsPlace f i = (n : ℕ) × ((n < channel_count f) × (i ≡ channel_place f n + 1))

abbrev pub OthersStay : Type 0
OthersStay =
    (f : List ℕ)
    → (length (migrated f) ≡ length f)
    × ((i : ℕ) → (SettingsPlace f i → ⊥) → (TraitsPlace f i → ⊥) → get_or (migrated f) i 0 ≡ get_or f i 0)

-- ---- no two files become the same

abbrev pub NoTwoTheSame : Type 0
NoTwoTheSame = (f g : List ℕ) → AllBytes f → AllBytes g → migrated f ≡ migrated g → f ≡ g

-- ---- a file in the new order, as every migrated one is: it stays, or the legacy reading refuses it by 7. So migrating twice does no harm. No paper asks for these two; the words of the header rest on
-- them

abbrev pub BothStay : Type 0
BothStay = (e : Edition) (f : List ℕ) → AllBytes f → file_rule e f ≡ Valid → legacy_file_rule e f ≡ Valid → migrated f ≡ f

abbrev pub OthersBySeven : Type 0
OthersBySeven = (e : Edition) (f : List ℕ) (n : Reason) (p : ℕ) → file_rule e f ≡ Valid → legacy_file_rule e f ≡ Refused n p → n ≡ reason.Value

-- ---- demand 3 opens with the migrated file, its history empty

abbrev pub Demand3Migrated : Type 0
Demand3Migrated =
    (e : Edition) (f spare history : List ℕ) → legacy_file_rule e f ≡ Valid → AllBytes f → EveryListFrom (editing e) OfBytes (migrated f) spare history
