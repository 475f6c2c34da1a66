use native.Mathlib.Omega.{arith}
use Rattle.journal.proofs.ScanLaws.{HeadRead, head_read, counted_step}
use Rattle.journal.proofs.scan.history_entries.Goals as goal
use Rattle.journal.proofs.scan.history_entries.Goals.{In_ok-k}

-- what stands at k
read : (c : In_ok-k) → HeadRead c.args.s.now c.loop-k.k c.in_ok-k.field-0
read c = head_read _ _ _ c.history_entry_at.ensures c.in_ok-k.was

pub loop-k-smaller : goal.loop-k-smaller
loop-k-smaller c = omega (arith, read c)

pub loop-k-preserved : goal.loop-k-preserved
loop-k-preserved c =
    let l = c.loop-k in
    (omega (arith, read c), counted_step _ l.k l.n _ _ _ l.invariant.1 (read c) (omega arith))
