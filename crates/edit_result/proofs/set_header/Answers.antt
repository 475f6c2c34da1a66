-- The two texts lie inside the record.
use native.Mathlib.Omega.{arith}
use Rattle.fields.proofs.Laws.{length_part}
use Rattle.edit_result.proofs.set_header.Goals as goal

pub text_ok-requires : goal.text_ok-requires
text_ok-requires c = rw c.record_bytes.ensures (length_part c.args.r.now 0 32 (omega arith))

pub text_ok-requires-2 : goal.text_ok-requires-2
text_ok-requires-2 c = rw c.record_bytes-2.ensures (length_part c.args.r.now 32 32 (omega arith))
