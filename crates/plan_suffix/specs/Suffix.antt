-- How the code goes about it: what is compared, from the last byte on, to tell how much agrees behind a change, and where it stands in a file.
-- No promise to a caller rests on these.
use Rattle.std.specs.Prelude.{ℕ, ◌+◌, ◌-◌, ◌*◌, ◌≤◌, ◌<◌, List, ◌++◌}
use Rattle.fields.specs.Bytes.{part, little_bytes}
use Rattle.affixes.specs.Common.{common_suffix}
use Rattle.renumber.specs.Shift.{growth_of}
use Rattle.renumber.specs.Moved.{offsets_moved}
use Rattle.plan.specs.declared.Counted.{Counted}
use Rattle.plan.specs.declared.Table.{Table}
use Rattle.plan.specs.declared.Block.{Block}

-- the bytes of f from p up to q
abbrev pub between : List ℕ → ℕ → ℕ → List ℕ
between f p q = part f p (q - p)

-- where the offsets of a table end
abbrev pub table_end : Table → ℕ
table_end t = t.start + t.many * 4

-- the offsets of a table once they are moved
abbrev pub new_offsets : Table → List ℕ → List ℕ
new_offsets t f = offsets_moved t.many (growth_of t.growth) f t.start

-- ---- the new bytes of a change, in pieces

-- a count, the bytes between it and a cut, and r
abbrev pub counted_pieces : Counted → List ℕ → List ℕ → List ℕ
counted_pieces c r f = little_bytes 2 c.count ++ (between f (c.counter + 2) c.at ++ r)

-- behind a table's offsets: banks, then those of a count
abbrev pub entries_behind : Table → Counted → List ℕ → List ℕ → List ℕ
entries_behind t c r f = between f (table_end t) c.counter ++ counted_pieces c r f

-- entries come or go: offsets, banks, a count, entries, r
abbrev pub entries_pieces : Table → Counted → List ℕ → List ℕ → List ℕ
entries_pieces t c r f = new_offsets t f ++ entries_behind t c r f

-- up to a table's end: a count, records, `added`, offsets
abbrev pub table_pieces : Table → Counted → List ℕ → List ℕ → List ℕ
table_pieces t c added f = counted_pieces c (added ++ new_offsets t f) f

-- behind a table's offsets: banks, a and b
abbrev pub bank_behind : Table → Block → List ℕ → List ℕ → List ℕ → List ℕ
bank_behind t k a b f = between f (table_end t) k.at ++ (a ++ b)

-- a bank comes or goes: those up to the table's end, banks, a and b
abbrev pub bank_pieces : Table → Block → Counted → List ℕ → List ℕ → List ℕ → List ℕ → List ℕ
bank_pieces t k c a b added f = table_pieces t c added f ++ bank_behind t k a b f

-- ---- how much of them agrees with the old bytes

-- with f from the table's offsets up to the cut's end
abbrev pub entries_suffix : Table → Counted → List ℕ → List ℕ → ℕ
entries_suffix t c r f = common_suffix (between f t.start (c.at + c.gone)) (entries_pieces t c r f)

-- with f from the count up to the bank's end
abbrev pub bank_suffix : Table → Block → Counted → List ℕ → List ℕ → List ℕ → List ℕ → ℕ
bank_suffix t k c a b added f = common_suffix (between f c.counter (k.at + k.size)) (bank_pieces t k c a b added f)

-- ---- where they stand in the first `end` bytes

-- a table's offsets before a count, the count before a cut
abbrev pub EntriesInside : Table → Counted → ℕ → Type 0
EntriesInside t c end =
    (table_end t ≤ c.counter) × ((c.counter + 2 ≤ c.at) × ((c.at + c.gone ≤ end) × (t.many < 65536)))

-- a table's offsets; a count before a place
abbrev pub TableInside : Table → Counted → ℕ → Type 0
TableInside t c end = (table_end t ≤ end) × ((t.many < 65536) × ((c.counter + 2 ≤ c.at) × (c.at ≤ end)))

-- a count before a table's offsets, these before a bank
abbrev pub BankInside : Table → Block → Counted → ℕ → Type 0
BankInside t k c end =
    (table_end t ≤ k.at) × ((t.many < 65536) × ((c.counter + 2 ≤ c.at) × ((c.at ≤ t.start) × (k.at + k.size ≤ end))))
