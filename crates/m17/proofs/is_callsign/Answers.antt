-- Both bounds are the definition's.
use borrow.Author.Tests.{le-leb, lt-leb}
use Rattle.m17.specs.Address.{is_callsign, within}
use Rattle.m17.proofs.is_callsign.Goals as goal

pub returns-then-n-ge1 : goal.returns-then-n-ge1
unfolding is_callsign within
returns-then-n-ge1 c = rw (← c.last_of-last.ensures) (simp (le-leb _ _ c.if-n-ge1.true))

pub returns-else-n-ge1 : goal.returns-else-n-ge1
unfolding is_callsign within
returns-else-n-ge1 c = simp (lt-leb _ _ c.if-n-ge1.false)
