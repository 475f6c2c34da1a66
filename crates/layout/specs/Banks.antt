-- The table of bank offsets and the banks (document 01, "The file").
use Rattle.std.specs.Prelude.{ℕ, zero, suc, ◌+◌, ◌*◌, List, length, leb, ltb, eqb}
use Rattle.fields.specs.Bytes.{part, num}
use Rattle.text.specs.Text.{text_ok}
use Rattle.fields.specs.Rule.{◌then◌, unless, field, inside, each}
use Rattle.layout.specs.Places.{channel_count, bank_count, offset_place, banks_place}
use Rattle.format.specs.declared.refusals.Reason.TheVariants as reason
use Rattle.fields.specs.Rule.{Validity}

-- ---- the table of offsets, inside in its turn

abbrev pub offset_at : List ℕ → ℕ → Validity
offset_at f p = inside (part f p 4) p 0 4

unfoldable pub offsets_rule : List ℕ → Validity
offsets_rule f = each (offset_at f) (bank_count f) 4 (offset_place f 0)

-- ---- banks: name, entry count, then one channel index per entry, each below the channel count

unfoldable pub entry_at : List ℕ → ℕ → Validity
entry_at f p = field (part f p 2) p 0 2 reason.BankEntry (ltb (num f p 2) (channel_count f))

unfoldable pub entry_count : List ℕ → ℕ → ℕ
entry_count f p = num f (p + 32) 2

-- where the offset at t leads: offsets count from the first byte after the table
abbrev pub offset_target : List ℕ → ℕ → ℕ
offset_target f t = banks_place f + num f t 4

-- a bank's name and entry count
unfoldable pub bank_head : List ℕ → ℕ → Validity
bank_head f p =
    field (part f p 34) p 0 32 reason.Text (text_ok (part f p 32))
    then inside (part f p 34) p 32 2

-- the bank at p, whose offset stands at t
unfoldable pub bank_at : List ℕ → ℕ → ℕ → Validity
bank_at f t p =
    unless (eqb (offset_target f t) p) reason.BankOffset t
    then bank_head f p
    then each (entry_at f) (entry_count f p) 2 (p + 34)

-- banks touch without gaps
unfoldable pub next_bank : List ℕ → ℕ → ℕ
next_bank f p = p + 34 + entry_count f p * 2

-- the last n banks, from the one at p with its offset at t; the file ends with the last
unfoldable pub banks_from : List ℕ → ℕ → ℕ → ℕ → Validity
banks_from f zero t p = unless (leb (length f) p) reason.Trailing p
banks_from f (suc n) t p = bank_at f t p then banks_from f n (t + 4) (next_bank f p)

unfoldable pub banks_rule : List ℕ → Validity
banks_rule f = banks_from f (bank_count f) (offset_place f 0) (banks_place f)

-- where the n-th bank after the one at p starts
unfoldable pub bank_from : List ℕ → ℕ → ℕ → ℕ
bank_from f zero p = p
bank_from f (suc n) p = bank_from f n (next_bank f p)

unfoldable pub bank_place : List ℕ → ℕ → ℕ
bank_place f n = bank_from f n (banks_place f)
