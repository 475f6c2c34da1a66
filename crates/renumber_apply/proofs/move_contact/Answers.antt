-- The index inside the channel's record, by its mode.
use Rattle.renumber.proofs.Laws.{contact-dmr, contact-m17, contact-fm}
use mathlib.Core.Path.{◌∙◌}
use native.Mathlib.Omega.{arith}
use Rattle.renumber_apply.proofs.move_contact.Goals as goal

pub returns-then-mode-eq1 : goal.returns-then-mode-eq1
returns-then-mode-eq1 c =
    let m = c in
    m.move_index.ensures ∙ contact-dmr _ _ _ m.if-mode-eq1.true (omega arith)

pub returns-then-mode-eq2 : goal.returns-then-mode-eq2
returns-then-mode-eq2 c =
    let m = c in
    m.move_index-then-mode-eq2.ensures ∙ contact-m17 _ _ _ m.if-mode-eq2.true (omega arith)

pub returns-else-mode-eq2 : goal.returns-else-mode-eq2
returns-else-mode-eq2 c = contact-fm _ _ _ c.if-mode-eq1.false c.if-mode-eq2.false (omega arith)
