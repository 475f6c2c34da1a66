-- The three counts of the header, and where the parts of a file stand (document 01, "The file").
use Rattle.std.specs.Prelude.{ℕ, ◌+◌, ◌*◌, List}
use Rattle.fields.specs.Bytes.{num}
use Rattle.layout.specs.declared.Counts.{Counts}

-- ---- contact count at 82, channel count at 84, bank count at 86

unfoldable pub contact_count : List ℕ → ℕ
contact_count f = num f 82 2

unfoldable pub channel_count : List ℕ → ℕ
channel_count f = num f 84 2

unfoldable pub bank_count : List ℕ → ℕ
bank_count f = num f 86 2

-- the three counts
unfoldable pub counts_of : List ℕ → Counts
counts_of f = record { contacts = contact_count f; channels = channel_count f; banks = bank_count f }

-- ---- where things stand: contacts of 39 bytes, channels of 90, one 4-byte offset per bank, then the banks

unfoldable pub contact_place : ℕ → ℕ
contact_place i = 88 + i * 39

unfoldable pub channel_place : List ℕ → ℕ → ℕ
channel_place f i = contact_place (contact_count f) + i * 90

unfoldable pub offset_place : List ℕ → ℕ → ℕ
offset_place f i = channel_place f (channel_count f) + i * 4

unfoldable pub banks_place : List ℕ → ℕ
banks_place f = offset_place f (bank_count f)
