-- The change starts at the count; the new bytes up to the end of the cut are compared in pieces.
use native.Mathlib.Omega.{arith}
use mathlib.Core.List.{append-nil}
use Rattle.plan_span.proofs.MeasureLaws.{CountedMeasured, counted-alone}
use Rattle.plan_span.proofs.counted_span.Goals as goal
use Rattle.plan_span.proofs.counted_span.Goals.{After-common_suffix_pieces-tail}

measured : (c : After-common_suffix_pieces-tail)
    → (let e = c.args in
    CountedMeasured e.c e.r.now e.f.now c.common_suffix_pieces-tail.result)
measured c =
    let s = c in
    counted-alone s.args.c s.args.r.now s.args.f.now _ _ s.requires c.bytes16-n.ensures
    (rw append-nil at c.common_suffix_pieces-tail.ensures)

pub overflow_add-f : goal.overflow_add-f
overflow_add-f c =
    omega (arith, (measured c).old-fits)

pub span_from-requires : goal.span_from-requires
span_from-requires c =
    ((measured (goal.at.span_from-requires c).After-common_suffix_pieces-tail).old-fits, (measured (goal.at.span_from-requires c).After-common_suffix_pieces-tail).new-fits)

pub returns : goal.returns
returns c =
    (measured (goal.at.returns c).After-common_suffix_pieces-tail).span _ c.span_from.ensures
