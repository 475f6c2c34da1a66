-- By the test.
use Rattle.fields.specs.Rule.{unless}
use Rattle.fields.proofs.rule.unless.Goals as goal

pub returns-then-ok : goal.returns-then-ok
unfolding unless
returns-then-ok c = rw c.if-ok.true

pub returns-else-ok : goal.returns-else-ok
unfolding unless
returns-else-ok c = rw c.if-ok.false
