-- Every field lies inside a whole record, so what is left of the rule is its tests.
use Rattle.fields.proofs.Laws.{valid-both, valid-field}
use mathlib.Core.Bool.{and-true}
use Rattle.channel.specs.Rule.{location_rule}
use Rattle.channel_validation.proofs.whole.location_valid.Goals as goal

pub returns : goal.returns
unfolding location_rule
returns c base =
    let whole = c.requires in
    rw (
      c.latitude_ok.ensures,
      c.fraction_ok-beyond.ensures,
      c.le16-2.ensures,
      c.latitude_fraction_ok-above.ensures,
      c.le16.ensures,
    )
    (simp (valid-both, valid-field, whole, and-true))
