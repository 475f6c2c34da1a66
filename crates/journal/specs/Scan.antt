-- How the scan of a history names what it finds. No promise to a caller rests on these.
use Rattle.std.specs.Prelude.{ℕ, ◌-◌, length, Some, None, Option}
use Rattle.journal.specs.Entry.{Front, front, none, Entries, whole, broken, history_bytes}
use Rattle.journal.specs.History.{fitting_run}
use Rattle.journal.specs.declared.scan.Run.{Run}
use Rattle.journal.specs.declared.scan.EntryHead.{EntryHead}

-- the entry at the front of the rest of a history of n bytes: its old bytes end where what follows it begins
unfoldable pub head_of : Front → ℕ → Option EntryHead
head_of (front e s) n =
    Some (record {
      place = e.place;
      put = e.put;
      taken = length e.old;
      body = n - length s - length e.old;
      next = n - length s;
    })
head_of none n = None

-- the run of entries that is kept within so many bytes
unfoldable pub run_of : Entries → ℕ → Run
run_of (whole es) space = record { bytes = length (history_bytes (fitting_run space es)); entries = length (fitting_run space es) }
run_of broken space = record { bytes = 0; entries = 0 }
