-- A change by its three numbers p, k and m, and the history with its entry put first, as the code has them. No promise to a caller rests on
-- these.
use Rattle.std.specs.Prelude.{ℕ, ◌+◌, ◌≤◌, ◌≡◌, List, [], ◌∷◌, ◌++◌, length, take, None}
use Rattle.fields.specs.Bytes.{over}
use Rattle.varint.specs.Number.{number_bytes}
use Rattle.journal.specs.Entry.{Entry, Entries, whole, broken, entries_of, history_bytes}
use Rattle.journal.specs.History.{recorded}
use Rattle.journal.specs.History.{number_of_entries}
use Rattle.journal.specs.Machine.{holding}
use Rattle.journal.specs.declared.scan.Run.{Run}
use Rattle.journal.specs.declared.recording.Span.{Span}

-- an entry's three numbers
unfoldable pub span_of : Entry → Span
span_of e = record { place = e.place; put = e.put; taken = length e.old }

-- the entry with these numbers and these old bytes
unfoldable pub entry_from : Span → List ℕ → Entry
entry_from s old = record { place = s.place; put = s.put; old = old }

-- numbers that an entry can hold
unfoldable pub Sound : Span → Type 0
Sound s = (s.place ≤ 1_048_576) × ((s.put ≤ 1_048_576) × (s.taken ≤ 1_048_576))

-- how many bytes the entry takes
unfoldable pub span_size : Span → ℕ
span_size s = length (number_bytes s.place) + (length (number_bytes s.put) + (length (number_bytes s.taken) + s.taken))

-- a history buffer of so many bytes after an edit with entry e
unfoldable pub recorded_in : ℕ → Entry → Entries → List Entry
recorded_in size e (whole es) = recorded size e es
recorded_in size e broken = e ∷ []

-- d after room for `size` bytes was made in front of its first n: whatever is written there, the buffer then holds it and those n bytes
pub record Reserved (d : List ℕ) (used n size : ℕ) (d₁ : List ℕ) : Type 0 where
  pub filled : (e : List ℕ) → length e ≡ size → over d₁ 0 e ≡ holding d used (e ++ take n d)

-- a history buffer d with `used` bytes of whole entries, and a change whose entry fits the buffer alone
abbrev pub Recordable : List ℕ → ℕ → Span → List ℕ → Type 0
Recordable d used s old =
    ((Sound s × (length old ≡ s.taken)) × (span_size s ≤ length d))
    × ((used ≤ length d) × (number_of_entries (entries_of (take used d)) ≡ None → ⊥))

-- the entries of d once that change is recorded
abbrev pub recorded_over : List ℕ → ℕ → Span → List ℕ → List Entry
recorded_over d used s old = recorded_in (length d) (entry_from s old) (entries_of (take used d))

-- their bytes and their number
abbrev pub run_held : List Entry → Run
run_held es = record { bytes = length (history_bytes es); entries = length es }
