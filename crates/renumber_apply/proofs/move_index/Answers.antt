-- The index read, moved and written.
use mathlib.Core.Path.{◌∙◌}
use Rattle.renumber_apply.proofs.move_index.Goals as goal

pub returns : goal.returns
returns c =
    let s = c in
    c.put_le16.ensures ∙ rw (s.shifted.ensures, s.le16.ensures)
