-- The bytes of channels, banks and offsets whose indexes or offsets have moved, and files with them.
use Rattle.std.specs.Prelude.{ℕ, zero, suc, ◌+◌, ◌-◌, List, [], ◌++◌, map, drop}
use Rattle.fields.specs.Bytes.{num, over, little_bytes}
use Rattle.layout.specs.Places.{channel_count, bank_count, channel_place, offset_place, banks_place}
use Rattle.model.specs.Codeplug.{joined, blocks, bank_bytes, banks_at}
use Rattle.model.specs.Edits.{move_contact, move_entries}

-- ---- the bytes at p

-- n channels, their contact indexes moved
unfoldable pub channels_moved : (ℕ → ℕ) → List ℕ → ℕ → ℕ → List ℕ
channels_moved g f n p = joined (map (move_contact g) (blocks 90 n (drop p f)))

-- n banks, their entries moved
unfoldable pub banks_moved : (ℕ → ℕ) → List ℕ → ℕ → ℕ → List ℕ
banks_moved g f n p = joined (map bank_bytes (map (move_entries g) (banks_at f n p)))

-- n offsets, moved
unfoldable pub offsets_moved : ℕ → (ℕ → ℕ) → List ℕ → ℕ → List ℕ
offsets_moved zero g f p = []
offsets_moved (suc n) g f p = little_bytes 4 (g (num f p 4)) ++ offsets_moved n g f (p + 4)

-- ---- a file f with them

-- every contact index moved
unfoldable pub contacts_follow : (ℕ → ℕ) → List ℕ → List ℕ
contacts_follow g f = over f (channel_place f 0) (channels_moved g f (channel_count f) (channel_place f 0))

-- every bank entry moved
unfoldable pub entries_follow : (ℕ → ℕ) → List ℕ → List ℕ
entries_follow g f = over f (banks_place f) (banks_moved g f (bank_count f) (banks_place f))

-- the offsets of bank i and those behind it moved
unfoldable pub offsets_follow : (ℕ → ℕ) → ℕ → List ℕ → List ℕ
offsets_follow g i f = over f (offset_place f i) (offsets_moved (bank_count f - i) g f (offset_place f i))
