-- Every field lies inside a whole record, so what is left of the rule is its tests.
use Rattle.fields.proofs.Laws.{valid-both, valid-field}
use Rattle.channel.specs.Values.{mode_ok}
use Rattle.channel_validation.proofs.whole.head_valid.Goals as goal

pub returns : goal.returns
unfolding mode_ok
returns c base =
    let whole = c.requires in
    simp (valid-both, valid-field, whole)
