use mathlib.Core.Path.{◌≡◌}
use native.Mathlib.Omega.{arith}
use lib.ListN.{length, drop}
use Rattle.journal.specs.Entry.{front_of, none}
use Rattle.journal.proofs.ScanLaws.{HeadRead, head_read, head_broken}
use Rattle.journal.proofs.ScanLaws.{fitting-start, fitting-step, fitting-full, fitting-end, fitting-whole}
use Rattle.journal.proofs.scan.fitting.Goals as goal
use Rattle.journal.proofs.scan.fitting.Goals.{In_default, In-Some}

-- what stands after the bytes that are passed
read : (c : In-Some)
    → HeadRead c.args.s.now c.loop-bytes.bytes
    c.in-Some.e
read c = head_read _ _ _ c.history_entry_at.ensures c.in-Some.is

none_here : (c : In_default)
    → front_of (drop c.loop-bytes.bytes c.args.s.now) ≡ none
none_here c =
    let l = c in
    let s = l.args.s.now in
    head_broken s l.loop-bytes.bytes (length s) c.history_entry_at.ensures c.in_default.is

pub loop-bytes-init : goal.loop-bytes-init
loop-bytes-init c = (omega arith, fitting-start c.args.s.now c.args.space c.requires)

pub loop-bytes-smaller : goal.loop-bytes-smaller
loop-bytes-smaller c = omega (arith, read (goal.at.loop-bytes-smaller c).In-Some)

pub loop-bytes-preserved : goal.loop-bytes-preserved
loop-bytes-preserved c =
    let l = c in
    (omega (arith, read (goal.at.loop-bytes-preserved c).In-Some), fitting-step (λ i. (l.type_inv.s i).fits) l.loop-bytes.invariant.1 (read (goal.at.loop-bytes-preserved c).In-Some) (omega arith))

pub returns-after-loop-bytes : goal.returns-after-loop-bytes
returns-after-loop-bytes c = fitting-end c.loop-bytes.invariant.1 (omega arith)

pub returns-then-space-next : goal.returns-then-space-next
returns-then-space-next c =
    let l = c in
    fitting-full (λ i. (l.type_inv.s i).fits) l.loop-bytes.invariant.1 (read (goal.at.returns-then-space-next c).In-Some) (omega arith) (omega arith)

pub returns-in_default : goal.returns-in_default
returns-in_default c = fitting-whole c.loop-bytes.invariant.1 (omega arith) (none_here c)
