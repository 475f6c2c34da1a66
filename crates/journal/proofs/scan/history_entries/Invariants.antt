-- The invariant: the count of all is n more than the count of what is left.
use Prim.Native.Nat.{◌-◌, ◌≤◌}
use mathlib.Core.Path.{◌≡◌}
use lib.ListN.{length, drop}
use Rattle.journal.specs.Entry.{entries_of}
use Rattle.journal.specs.History.{number_of_entries}
use Rattle.journal.proofs.ScanLaws.{added}
use Rattle.journal.proofs.scan.history_entries.Given as goal

abbrev pub invariant-loop-k : goal.invariant-loop-k
invariant-loop-k l = ((l.k ≤ length l.s) × (l.n ≤ l.k)) × (number_of_entries (entries_of l.s) ≡ added l.n (number_of_entries (entries_of (drop l.k l.s))))

abbrev pub decreases-loop-k : goal.decreases-loop-k
decreases-loop-k l = length l.s - l.k
