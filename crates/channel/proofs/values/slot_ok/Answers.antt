-- The tests are the definition's.
use Rattle.channel.specs.Values.{slot_ok}
use borrow.Author.Tests.{le-leb, lt-leb}
use native.Mathlib.Omega.{arith}
use Rattle.channel.proofs.values.slot_ok.Goals as goal

pub returns-then-x-ge1 : goal.returns-then-x-ge1
unfolding slot_ok
returns-then-x-ge1 c = rw (le-leb 1 c.args.x (omega arith))

pub returns-else-x-ge1 : goal.returns-else-x-ge1
unfolding slot_ok
returns-else-x-ge1 c = rw (lt-leb 1 c.args.x (omega arith))
