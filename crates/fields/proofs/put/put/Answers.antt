use native.Mathlib.Omega.{arith}
use Rattle.fields.proofs.Laws.{written_part}
use Rattle.fields.proofs.put.put.Goals as goal

pub returns : goal.returns
returns c = written_part _ _ _ _ _ c.copy_from_slice.ensures.after (omega arith)
