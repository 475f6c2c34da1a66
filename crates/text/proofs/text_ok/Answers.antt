use Rattle.std.proofs.Common.{◌≡◌, take, sym, arith}
use Rattle.std.proofs.lemmas.List.{take_all, length-take-le}
use Rattle.text.proofs.Laws.{rest_ok-start, scan_step, scan-end}
use Rattle.text.proofs.text_ok.Goals as goal

pub slice_bounds-b-items-end : goal.slice_bounds-b-items-end
slice_bounds-b-items-end c = sym (length-take-le 32 c.args.s.now (omega arith))

pub overflow_add-faults : goal.overflow_add-faults
overflow_add-faults c = record { fits = omega (arith, length-take-le 32 c.args.s.now (omega arith), c.step_fault-faults.ensures.1) }

pub loop-b-init : goal.loop-b-init
loop-b-init c = (omega arith, rest_ok-start _)

pub loop-b-preserved : goal.loop-b-preserved
loop-b-preserved c =
    let s = c.args.s.now in
    let l = c.loop-b in
    let e = c.step_fault-faults in
    let t : take 32 s ≡ s = take_all 32 s (omega arith) in
    (omega (arith, e.ensures.1), rw t (scan_step s l.b-index l.faults l.prev e.result (rw t at c.loop-b-test.true) (rw t at e.ensures.0) l.invariant.1))

pub returns : goal.returns
returns c =
    let s = c.args.s.now in
    let l = c.loop-b in
    let t : take 32 s ≡ s = take_all 32 s (omega arith) in
    scan-end s l.b-index l.faults l.prev (rw t at c.loop-b-test.false) l.invariant.1
