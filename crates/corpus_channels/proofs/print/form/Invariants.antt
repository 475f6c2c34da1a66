-- Each sign takes at most one number.
use Rattle.std.proofs.Common.{◌≤◌}
use Rattle.corpus_channels.proofs.print.form.Given as goal

abbrev pub invariant-loop-c : goal.invariant-loop-c
invariant-loop-c g l = l.k ≤ l.c-index
