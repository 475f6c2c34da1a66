-- Every field lies inside a whole record, so what is left of the rule is its tests.
use Rattle.fields.proofs.Laws.{valid-both, valid-field}
use Rattle.channel.specs.Rule.{fm_rule}
use Rattle.channel_validation.proofs.whole.fm_valid.Goals as goal

pub returns : goal.returns
unfolding fm_rule
returns c base =
    let whole = c.requires in
    rw (c.tone_ok-2.ensures, c.tone_ok.ensures) (simp (valid-both, valid-field, whole))
