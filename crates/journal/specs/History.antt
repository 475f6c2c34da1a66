-- The history after an edit (document 01, "The history"): its entry first, then the longest run of earlier entries, newest first, that
-- still fits.
use Rattle.std.specs.Prelude.{ℕ, ◌-◌, cond, List, [], ◌∷◌, length, leb, Some, None, Option}
use Rattle.journal.specs.Entry.{Entry, entry_size, Entries, whole, broken}

-- the longest run of entries within so many bytes
unfoldable pub fitting_run : ℕ → List Entry → List Entry
fitting_run space [] = []
fitting_run space (e ∷ es) = cond (leb (entry_size e) space) (e ∷ fitting_run (space - entry_size e) es) []

-- a history buffer of so many bytes after an edit with entry e
unfoldable pub recorded : ℕ → Entry → List Entry → List Entry
recorded size e es = e ∷ fitting_run (size - entry_size e) es

-- how many entries bytes hold, or that they are not whole entries
unfoldable pub number_of_entries : Entries → Option ℕ
number_of_entries (whole es) = Some (length es)
number_of_entries broken = None
