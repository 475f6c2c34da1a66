-- By whether the field is wholly inside.
use mathlib.Core.Path.{sym, ◌∙◌}
use Rattle.fields.proofs.Laws.{field-inside, field_cut}
use Rattle.fields.proofs.rule.field.Goals as goal

pub returns-then-k-n : goal.returns-then-k-n
returns-then-k-n c = c.unless.ensures ∙ sym (field-inside _ _ _ _ _ _ c.if-k-n.true)

pub returns-else-k-n : goal.returns-else-k-n
returns-else-k-n c = sym (field_cut _ _ _ _ _ _ c.if-k-n.false)
