use mathlib.Core.Path.{◌∙◌}
use Rattle.std.specs.Int.{w32}
use Rattle.fields.proofs.Laws.{to_le-little}
use Rattle.plan.proofs.numbers.bytes32.Goals as goal

pub returns : goal.returns
returns c = c.to_le_bytes.ensures ∙ to_le-little w32 c.args.x
