-- Three numbers of one to three bytes, and the old bytes.
use Rattle.journal.specs.Span.{Sound, span_size}
use Rattle.journal.proofs.RecordLaws.{span-short}
use borrow.Author.Rules.{rules}
use native.Mathlib.Omega.{arith}
use Rattle.journal.proofs.recording.entry_size.Goals as goal

pub number_length-requires : goal.number_length-requires
unfolding Sound
number_length-requires c = search rules

pub number_length-requires-2 : goal.number_length-requires-2
unfolding Sound
number_length-requires-2 c = search rules

pub overflow_add-result : goal.overflow_add-result
unfolding Sound
overflow_add-result c = omega (arith, span-short c.args.s)

pub number_length-requires-3 : goal.number_length-requires-3
unfolding Sound
number_length-requires-3 c = search rules

pub overflow_add-result-2 : goal.overflow_add-result-2
unfolding Sound
overflow_add-result-2 c = omega (arith, span-short c.args.s)

pub overflow_add-result-3 : goal.overflow_add-result-3
unfolding Sound
overflow_add-result-3 c = omega (arith, span-short c.args.s)

pub returns : goal.returns
unfolding span_size
returns c = omega arith
