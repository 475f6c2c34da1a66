-- The invariant: the run of all is what is passed and then the run of the rest, which is whole entries.
use Prim.Native.Nat.{◌-◌, ◌≤◌}
use lib.ListN.{length}
use Rattle.journal.proofs.ScanLaws.{Fitting}
use Rattle.journal.proofs.scan.fitting.Given as goal

abbrev pub invariant-loop-bytes : goal.invariant-loop-bytes
invariant-loop-bytes l =
    (((l.bytes ≤ length l.s) × (l.entries ≤ l.bytes)) × (l.bytes ≤ l.space)) × Fitting l.s l.space l.bytes l.entries

abbrev pub decreases-loop-bytes : goal.decreases-loop-bytes
decreases-loop-bytes l = length l.s - l.bytes
