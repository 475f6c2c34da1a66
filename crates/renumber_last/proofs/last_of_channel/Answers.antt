-- The index inside the channel's record, by its mode.
use Rattle.renumber_last.proofs.LastLaws.{last_from}
use Rattle.renumber.proofs.Laws.{contact-dmr, contact-m17, contact-fm}
use Rattle.renumber_last.specs.Last.{LastMoved}
use mathlib.Core.Path.{sym}
use native.Mathlib.Omega.{arith}
use Rattle.renumber_last.proofs.last_of_channel.Goals as goal

pub returns-then-mode-eq1 : goal.returns-then-mode-eq1
returns-then-mode-eq1 c = last_from _ _ _ _ _ _ _ (omega arith) (contact-dmr _ _ _ c.if-mode-eq1.true (omega arith)) c.moves_at.ensures

pub returns-then-mode-eq2 : goal.returns-then-mode-eq2
returns-then-mode-eq2 c = last_from _ _ _ _ _ _ _ (omega arith) (contact-m17 _ _ _ c.if-mode-eq2.true (omega arith)) c.moves_at-then-mode-eq2.ensures

pub returns : goal.returns
unfolding LastMoved
returns c = sym (contact-fm _ _ _ c.if-mode-eq1.false c.if-mode-eq2.false (omega arith))
