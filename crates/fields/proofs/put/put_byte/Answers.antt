-- One byte is a list of one byte.
use Rattle.fields.proofs.Laws.{over-byte}
use Rattle.fields.proofs.put.put_byte.Goals as goal

pub returns : goal.returns
returns c = over-byte _ _ _ c.requires
