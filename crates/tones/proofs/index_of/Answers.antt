-- The closure is the test of the definition.
use Rattle.std.proofs.Common.{◌≡◌, ℕ, eqb, sym, ◌∙◌, rules}
use Rattle.std.proofs.lemmas.Iterator.{YieldsList-from_slice}
use Rattle.std.proofs.lemmas.Iterator.Adapters.{position_from-zero}
use Rattle.std.proofs.lemmas.Iterator.Search.{position_from_yields_List}
use borrow.Author.Tests.{tests}
use Rattle.tones.specs.Tone.{index_of, tone_table}
use Rattle.tones.proofs.index_of.Goals as goal
use Rattle.tones.proofs.index_of.Goals.{After-position}

found : (c : After-position) → c.position.result ≡ index_of c.args.tenths
unfolding index_of tone_table
found c =
    position_from_yields_List (λ t. eqb t c.args.tenths) _ _ c.position.result c.position.ensures.ran (YieldsList-from_slice tone_table c.iter.ensures.rest) (λ x b q k. search (rules, tests))
    ∙ position_from-zero {B = ℕ} (λ t. eqb t c.args.tenths) tone_table

pub returns-in_err-i : goal.returns-in_err-i
returns-in_err-i c = c.from_residual.ensures ∙ sym c.in_err-i.was ∙ found (goal.at.returns-in_err-i c).After-position

pub returns : goal.returns
returns c = sym c.in_ok-i.was ∙ found (goal.at.returns c).After-position
