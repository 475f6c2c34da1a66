-- What `Valid` on record n comes with: a place below 65,536, and all of the record's bytes. No promise to a caller rests on these.
use Rattle.std.specs.Prelude.{◌≡◌, ℕ, ◌≤◌, ◌<◌, List, length}
use Rattle.fields.specs.Bytes.{part}
use Rattle.layout.specs.Places.{contact_place, channel_place}
use Rattle.layout.specs.Banks.{bank_place}
use Rattle.codeplug.specs.Prevalidated.{table_place}

abbrev pub ContactThere : List ℕ → ℕ → Type 0
ContactThere f n = (n < 65536) × (39 ≤ length (part f (contact_place n) 39))

abbrev pub ChannelThere : List ℕ → ℕ → Type 0
ChannelThere f n = (n < 65536) × (90 ≤ length (part f (channel_place f n) 90))

-- a bank where the offset table leads
abbrev pub BankThere : List ℕ → ℕ → Type 0
BankThere f n = (n < 65536) × (34 ≤ length (part f (table_place f n) 34))

-- and which is the file's bank n
abbrev pub BankLed : List ℕ → ℕ → Type 0
BankLed f n = BankThere f n × (table_place f n ≡ bank_place f n)
