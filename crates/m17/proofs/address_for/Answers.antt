-- The test is the definition's.
use borrow.Author.Tests.{eq-eqb, ne_eqb}
use Rattle.m17.specs.Address.{address_for}
use Rattle.m17.proofs.address_for.Goals as goal

pub returns-then-n-eq-BROADCAST : goal.returns-then-n-eq-BROADCAST
unfolding address_for
returns-then-n-eq-BROADCAST c = simp (eq-eqb _ _ c.if-n-eq-BROADCAST.true)

pub returns-else-n-eq-BROADCAST : goal.returns-else-n-eq-BROADCAST
unfolding address_for
returns-else-n-eq-BROADCAST c = simp (ne_eqb _ _ c.if-n-eq-BROADCAST.false)
