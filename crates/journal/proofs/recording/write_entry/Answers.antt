-- Each part is written right behind the one before.
use Rattle.journal.specs.Span.{Sound, span_size}
use Rattle.journal.proofs.RecordLaws.{span-short, entry-written}
use native.Mathlib.Omega.{arith}
use borrow.Author.Rules.{rules}
use Rattle.journal.proofs.recording.write_entry.Goals as goal

pub number_length-a-requires : goal.number_length-a-requires
unfolding Sound span_size
number_length-a-requires c = search rules

pub number_length-requires : goal.number_length-requires
unfolding Sound span_size
number_length-requires c = search rules

pub overflow_add-b : goal.overflow_add-b
unfolding Sound span_size
overflow_add-b c = omega (arith, span-short c.args.s)

pub number_length-requires-2 : goal.number_length-requires-2
unfolding Sound span_size
number_length-requires-2 c = search rules

pub overflow_add-c : goal.overflow_add-c
unfolding Sound span_size
overflow_add-c c = omega (arith, span-short c.args.s)

pub put_number-requires : goal.put_number-requires
unfolding Sound span_size
put_number-requires c = search rules

pub put_number-requires-2 : goal.put_number-requires-2
unfolding Sound span_size
put_number-requires-2 c = search rules

pub put_number-requires-3 : goal.put_number-requires-3
unfolding Sound span_size
put_number-requires-3 c = search rules

pub put-requires : goal.put-requires
unfolding Sound span_size
put-requires c = search rules

pub returns : goal.returns
returns c =
    let c₃ = c in
    let c₁ = c₃ in
    let e = c₁.args in
    entry-written e.d.now _ _ _ _ e.s e.old.now _ _ _
    c₁.put_number.ensures
    c₃.put_number-2.ensures
    c₃.put_number-3.ensures
    c.put.ensures
    (omega arith) (omega arith) (omega arith) (omega arith)
