use mathlib.Core.Path.{◌∙◌}
use native.Mathlib.Omega.{arith}
use Rattle.fields.proofs.Laws.{moved_part}
use Rattle.buffers.proofs.block.move_up.Goals as goal

pub returns : goal.returns
returns c = c.copy_within.ensures.after ∙ moved_part _ _ _ _ (omega arith)
