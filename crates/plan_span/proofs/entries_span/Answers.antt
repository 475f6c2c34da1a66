-- The change starts at the first offset that moves, or at the count where none does.
use native.Mathlib.Omega.{arith}
use Rattle.plan.specs.Fits.{Fits}
use Rattle.plan.specs.Plan.{planned}
use Rattle.plan_span.proofs.TableLaws.{EntriesMeasured, entries-measured, table_none}
use Rattle.plan_span.proofs.entries_span.Goals as goal
use Rattle.plan_span.proofs.entries_span.Goals.{After-entries_suffix-tail}

pub returns-then-t-eq0 : goal.returns-then-t-eq0
unfolding planned
returns-then-t-eq0 c =
    let e = c.args in
    rw (table_none e.t e.f.now c.if-t-eq0.true) c.counted_span.ensures

pub entries_suffix-tail-requires : goal.entries_suffix-tail-requires
unfolding Fits
entries_suffix-tail-requires c =
    let h = c.requires in
    (h.1.0.before, (h.0.before, (h.0.inside, h.1.0.few)))

measured : (c : After-entries_suffix-tail)
    → (let e = c.args in
    EntriesMeasured e.t e.c e.r.now e.f.now c.entries_suffix-tail.result)
measured c =
    let s = c in
    entries-measured s.args.t s.args.c s.args.r.now s.args.f.now _ s.requires c.if-t-eq0.false
    c.entries_suffix-tail.ensures

pub counted_span-requires : goal.counted_span-requires
unfolding Fits
counted_span-requires c =
    c.requires.0

pub overflow_add-f : goal.overflow_add-f
unfolding Fits
overflow_add-f c =
    omega (arith, (measured c).old-fits)

pub span_from-requires : goal.span_from-requires
unfolding Fits
span_from-requires c =
    ((measured c).old-fits, (measured c).new-fits)

pub returns : goal.returns
unfolding Fits
returns c =
    (measured (goal.at.returns c).After-entries_suffix-tail).span _ c.span_from.ensures
