use native.Mathlib.Omega.{arith}
use Rattle.fields.proofs.Laws.{cleared_part}
use Rattle.buffers.proofs.block.clear.Goals as goal

pub returns : goal.returns
returns c = cleared_part _ _ _ _ _ (c.fill.ensures.after (λ y e. e)) (omega arith) c.requires
