-- The name over zeros.
use mathlib.Core.Path.{◌∙◌}
use Rattle.fields.specs.Bytes.{zeros, little_bytes}
use Rattle.fields.proofs.Laws.{over-fresh}
use native.Mathlib.Omega.{arith}
use Rattle.plan.proofs.numbers.empty_bank.Goals as goal

pub returns : goal.returns
unfolding zeros little_bytes
returns c = c.put.ensures ∙ over-fresh c.args.name.now 32 2 (omega arith)
