-- The change starts at the count of banks and ends at most where the new bank stands.
use native.Mathlib.Omega.{arith}
use Rattle.plan.specs.Fits.{Fits}
use Rattle.plan_span.proofs.TableLaws.{AddMeasured, add-measured}
use Rattle.plan_span.proofs.add_bank_span.Goals as goal
use Rattle.plan_span.proofs.add_bank_span.Goals.{After-bank_suffix-tail}

pub bank_suffix-tail-requires : goal.bank_suffix-tail-requires
unfolding Fits
bank_suffix-tail-requires c =
    let h = c.requires in
    (h.1.0.before, (h.1.0.few, (h.0.before, (omega arith, omega arith))))

measured : (c : After-bank_suffix-tail)
    → (let e = c.args in
    AddMeasured e.t e.at e.offset e.c e.r.now e.f.now c.bank_suffix-tail.result)
measured c =
    let s = c in
    add-measured s.args.t s.args.at s.args.offset s.args.c s.args.r.now s.args.f.now _ _ s.requires
    c.bytes32-bytes.ensures c.bank_suffix-tail.ensures

pub overflow_add-f : goal.overflow_add-f
unfolding Fits
overflow_add-f c =
    omega (arith, (measured c).old-fits)

pub span_from-requires : goal.span_from-requires
unfolding Fits
span_from-requires c =
    ((measured c).old-fits, (measured c).new-fits)

pub returns : goal.returns
unfolding Fits
returns c =
    (measured (goal.at.returns c).After-bank_suffix-tail).span _ c.span_from.ensures
