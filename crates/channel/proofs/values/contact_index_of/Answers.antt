-- The test is the definition's.
use Rattle.channel.specs.Values.{contact_index_of}
use borrow.Author.Tests.{eq-eqb, ne_eqb}
use native.Mathlib.Omega.{arith}
use Rattle.channel.proofs.values.contact_index_of.Goals as goal

pub returns-then-x-eq65535 : goal.returns-then-x-eq65535
unfolding contact_index_of
returns-then-x-eq65535 c = rw (eq-eqb c.args.x 65535 (omega arith))

pub returns-else-x-eq65535 : goal.returns-else-x-eq65535
unfolding contact_index_of
returns-else-x-eq65535 c = rw (ne_eqb c.args.x 65535 (omega arith))
