-- The run that is kept is the front of the buffer; room is made before it, and filled.
use Prim.Native.Nat.{◌-◌}
use mathlib.Core.Path.{sym, ◌∙◌}
use lib.ListN.{length}
use lib.Seq.{length-take-le}
use Rattle.journal.specs.Entry.{entry_bytes}
use Rattle.journal.specs.Span.{entry_from}
use Rattle.journal.proofs.RecordLaws.{KeptRun, kept_run, from-size, from_bytes, history-first-run, run-first}
use native.Mathlib.Omega.{arith}
use borrow.Author.Rules.{rules}
use Rattle.journal.proofs.recording.record_entry.Goals as goal
use Rattle.journal.proofs.recording.record_entry.Goals.{After-fitting-kept}

-- what is known of the run
run : (c : After-fitting-kept)
    → (let e = c.args in
    KeptRun e.d.now e.used (length e.d.now - c.entry_size-size.result) c.fitting-kept.result)
run c =
    let e = c in
    kept_run (λ i. (c.slice_known-1.given i).fits) e.requires.1.1 c.fitting-kept.ensures

pub slice_bounds-fitting-end-2 : goal.slice_bounds-fitting-end-2
slice_bounds-fitting-end-2 c = let e = c.args in sym (length-take-le e.used e.d.now (omega arith))

pub reserve-requires : goal.reserve-requires
reserve-requires c = let r = run (goal.at.reserve-requires c).After-fitting-kept in search rules

pub overflow_add-result : goal.overflow_add-result
overflow_add-result c = omega (arith, run (goal.at.overflow_add-result c).After-fitting-kept)

pub overflow_add-result-2 : goal.overflow_add-result-2
overflow_add-result-2 c = omega (arith, run (goal.at.overflow_add-result-2 c).After-fitting-kept)

pub returns : goal.returns
returns c =
    let w = c in
    let v = w in
    let k = v in
    let z = k in
    let e = z in
    let a = e.args in
    let n = entry_from a.s a.old.now in
    let s = from-size a.s a.old.now e.requires.0.0.1 in
    let b = from_bytes a.s a.old.now e.requires.0.0.1 in record {
      history = history-first-run (run (goal.at.returns c).After-fitting-kept) n (omega (arith, z.entry_size-size.ensures))
          (w.write_entry.ensures ∙ v.reserve.ensures.filled (entry_bytes n) (omega (arith, z.entry_size-size.ensures)));
      left = run-first (run (goal.at.returns c).After-fitting-kept) n _ (omega (arith, z.entry_size-size.ensures)) (omega (arith, z.entry_size-size.ensures));
    }
