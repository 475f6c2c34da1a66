-- Nothing changes, or the change starts inside the bytes that are written.
use native.Mathlib.Omega.{arith}
use Prim.Native.Nat.{◌+◌, ◌-◌}
use lib.ListN.{length}
use Rattle.fields.specs.Bytes.{over}
use Rattle.plan_suffix.specs.Suffix.{between}
use Rattle.plan_span.proofs.MeasureLaws.{Measured, Replaced, replaced}
use Rattle.plan_span.proofs.replace_span.Goals as goal
use Rattle.plan_span.proofs.replace_span.Goals.{After-common_prefix-c, After-common_suffix-tail}

started : (c : After-common_prefix-c)
    → (let e = c.args in
    Replaced e.f.now e.r.now e.at c.common_prefix-c.result (between e.f.now e.at (e.at + length e.r.now)))
started c =
    let s = c in
    replaced s.args.f.now s.args.r.now s.args.at _ s.requires c.common_prefix-c.ensures

measured : (c : After-common_suffix-tail)
    → (let e = c.args in
    Measured e.f.now (over e.f.now e.at e.r.now) (e.at + c.common_prefix-c.result)
    (length e.f.now - (e.at + length e.r.now) + c.common_suffix-tail.result) (length e.f.now))
measured c = (started (goal.at.After-common_suffix-tail c).After-common_prefix-c).differs c.if-c-n.false _ c.common_suffix-tail.ensures

pub returns-then-c-n : goal.returns-then-c-n
returns-then-c-n c =
    ((started (goal.at.returns-then-c-n c).After-common_prefix-c).same c.if-c-n.true).span _ c.span_from.ensures

pub slice_bounds-common_suffix-count : goal.slice_bounds-common_suffix-count
slice_bounds-common_suffix-count c =
    (started (goal.at.slice_bounds-common_suffix-count c).After-common_prefix-c).old

pub slice_bounds-common_suffix-start : goal.slice_bounds-common_suffix-start
slice_bounds-common_suffix-start c =
    (started (goal.at.slice_bounds-common_suffix-start c).After-common_prefix-c).old

pub slice_bounds-common_suffix-count-2 : goal.slice_bounds-common_suffix-count-2
slice_bounds-common_suffix-count-2 c =
    (started (goal.at.slice_bounds-common_suffix-count-2 c).After-common_prefix-c).new

pub slice_bounds-common_suffix-start-2 : goal.slice_bounds-common_suffix-start-2
slice_bounds-common_suffix-start-2 c =
    (started (goal.at.slice_bounds-common_suffix-start-2 c).After-common_prefix-c).new

pub overflow_add-at : goal.overflow_add-at
overflow_add-at c =
    omega (arith, (measured c).old-fits)

pub overflow_add-f : goal.overflow_add-f
overflow_add-f c =
    omega (arith, (measured c).old-fits)

pub span_from-requires-2 : goal.span_from-requires-2
span_from-requires-2 c =
    ((measured c).old-fits, (measured c).new-fits)

pub returns : goal.returns
returns c =
    (measured (goal.at.returns c).After-common_suffix-tail).span _ c.span_from-2.ensures
