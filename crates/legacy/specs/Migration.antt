-- What migrating makes of a file that is valid by the legacy reading (document 02, [5]): the traits of every channel and the settings of every DMR contact
-- in the new order. Byte 37 of an M17 contact belongs to its address and stays, as does every other byte. Defined for any bytes.
use Rattle.std.specs.Prelude.{ℕ, zero, suc, ◌+◌, ◌*◌, ◌/◌, ◌%◌, cond, List, ◌++◌, take, drop, get_or, set, eqb}
use Rattle.layout.specs.Places.{contact_count, channel_count, contact_place, channel_place}
use Rattle.std.specs.Prelude.{Ok, Err}
use Rattle.fields.specs.Rule.{Validity}

-- bits 7 and 6 to bits 1 and 0, bit 5 to bit 2, and the five bits below them, zero in every accepted file, to the five above
unfoldable pub migrated_byte : ℕ → ℕ
migrated_byte b = b % 32 * 8 + (b / 32 % 2 * 4 + b / 64)

-- the byte at k of a record; a record that is cut before it stays
abbrev pub migrated_at : ℕ → List ℕ → List ℕ
migrated_at k s = set s k (migrated_byte (get_or s k 0))

-- a contact's bytes: the settings of a DMR contact
unfoldable pub migrated_contact : List ℕ → List ℕ
migrated_contact s = cond (eqb (get_or s 32 0) 1) (migrated_at 37 s) s

-- a channel's bytes: its traits
unfoldable pub migrated_channel : List ℕ → List ℕ
migrated_channel s = migrated_at 1 s

-- the first n records of w bytes changed by g
unfoldable pub with_records : (List ℕ → List ℕ) → ℕ → ℕ → List ℕ → List ℕ
with_records g w zero s = s
with_records g w (suc n) s = g (take w s) ++ with_records g w n (drop w s)

-- the n records from place p on
unfoldable pub with_records_at : ℕ → (List ℕ → List ℕ) → ℕ → ℕ → List ℕ → List ℕ
with_records_at p g w n f = take p f ++ with_records g w n (drop p f)

abbrev pub contacts_migrated : List ℕ → List ℕ
contacts_migrated f = with_records_at (contact_place 0) migrated_contact 39 (contact_count f) f

abbrev pub channels_migrated : List ℕ → List ℕ
channels_migrated f = with_records_at (channel_place f 0) migrated_channel 90 (channel_count f) f

unfoldable pub migrated : List ℕ → List ℕ
migrated f = channels_migrated (contacts_migrated f)

-- what the call leaves, by the legacy reading's validity: a refused file stays as it is
unfoldable pub migrated_by : Validity → List ℕ → List ℕ
migrated_by (Ok u) f = migrated f
migrated_by (Err e) f = f
