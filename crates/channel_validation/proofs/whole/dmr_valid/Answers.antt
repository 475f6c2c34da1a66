-- Every field lies inside a whole record, so what is left of the rule is its tests.
use Rattle.fields.proofs.Laws.{valid-both, valid-field}
use Rattle.channel.specs.Rule.{dmr_rule}
use Rattle.channel_validation.proofs.whole.dmr_valid.Goals as goal

pub returns : goal.returns
unfolding dmr_rule
returns c base =
    let whole = c.requires in
    rw c.slot_ok.ensures (simp (valid-both, valid-field, whole))
