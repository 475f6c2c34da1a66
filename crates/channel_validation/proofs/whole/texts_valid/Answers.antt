-- Every field lies inside a whole record, so what is left of the rule is its tests.
use Rattle.fields.proofs.Laws.{valid-both, valid-field}
use Rattle.channel.specs.Rule.{texts_rule}
use Rattle.channel_validation.proofs.whole.texts_valid.Goals as goal

pub returns : goal.returns
unfolding texts_rule
returns c base =
    let whole = c.requires in
    rw (c.text_ok-2.ensures, c.text_ok.ensures) (simp (valid-both, valid-field, whole))
