-- The test is the definition's.
use borrow.Author.Tests.{eq-eqb, ne_eqb}
use Rattle.m17.specs.Edition.{edition_of}
use Rattle.m17.proofs.edition_of.Goals as goal

pub returns-then-n-eq-NEWER : goal.returns-then-n-eq-NEWER
unfolding edition_of
returns-then-n-eq-NEWER c = simp (eq-eqb _ _ c.if-n-eq-NEWER.true)

pub returns-else-n-eq-NEWER : goal.returns-else-n-eq-NEWER
unfolding edition_of
returns-else-n-eq-NEWER c = simp (ne_eqb _ _ c.if-n-eq-NEWER.false)
