use mathlib.Core.Path.{◌∙◌}
use Rattle.std.specs.Int.{w16}
use Rattle.fields.proofs.Laws.{to_le-little}
use Rattle.plan.proofs.numbers.bytes16.Goals as goal

pub returns : goal.returns
returns c = c.to_le_bytes.ensures ∙ to_le-little w16 c.args.x
