-- The invariant: the text is begun, by what is written and the rest.
use Rattle.m17_decoder.specs.Begin.{Begun}
use Rattle.m17_decoder.proofs.write_text.Given as goal

abbrev pub invariant-loop-i : goal.invariant-loop-i
invariant-loop-i l = Begun l.n l.initial.out l.out l.i l.len l.rest
