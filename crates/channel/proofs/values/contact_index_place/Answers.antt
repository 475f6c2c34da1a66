-- By the test on the mode.
use borrow.Author.Tests.{eq-eqb, ne_eqb}
use native.Mathlib.Omega.{arith}
use Rattle.channel.proofs.values.contact_index_place.Goals as goal

pub returns-then-mode-eq-DMR : goal.returns-then-mode-eq-DMR
returns-then-mode-eq-DMR c = (rw (eq-eqb c.args.mode 1 (omega arith)), omega arith)

pub returns-else-mode-eq-DMR : goal.returns-else-mode-eq-DMR
returns-else-mode-eq-DMR c = (rw (ne_eqb c.args.mode 1 (omega arith)), omega arith)
