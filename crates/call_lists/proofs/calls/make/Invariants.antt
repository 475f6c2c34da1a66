-- Each call takes at least a byte of the list.
use Rattle.std.proofs.Common.{length, ◌-◌}
use Rattle.call_lists.proofs.calls.make.Given as goal

abbrev pub decreases-loop-k : goal.decreases-loop-k
decreases-loop-k g l = length l.initial.calls - l.k
