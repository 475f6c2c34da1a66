-- Every field lies inside a whole record, so what is left of the rule is its tests.
use Rattle.fields.proofs.Laws.{valid-both, valid-field}
use Rattle.channel.specs.Rule.{m17_rule}
use Rattle.channel_validation.proofs.whole.m17_valid.Goals as goal

pub returns : goal.returns
unfolding m17_rule
returns c base =
    let whole = c.requires in
    rw (c.operation_ok.ensures, c.from-h.ensures) (simp (valid-both, valid-field, whole))
