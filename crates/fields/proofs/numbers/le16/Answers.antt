use mathlib.Core.Path.{◌∙◌}
use Rattle.fields.proofs.Laws.{from_le-num}
use Rattle.fields.proofs.numbers.le16.Goals as goal

pub returns : goal.returns
returns c = c.from_le_bytes.ensures ∙ from_le-num _ _ _ 1 c.bytes_at.ensures
