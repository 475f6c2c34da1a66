use Rattle.std.specs.Int.{w16}
use Rattle.fields.proofs.Laws.{to_le-little}
use Rattle.fields.proofs.put.put_le16.Goals as goal

pub returns : goal.returns
returns c = rw (c.to_le_bytes.ensures, to_le-little w16 c.args.x) at c.put.ensures
