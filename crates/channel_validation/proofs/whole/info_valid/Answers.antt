-- The three modes, by the definition's tests on the mode.
use Rattle.fields.proofs.Laws.{valid-cond}
use Rattle.channel.specs.Rule.{info_rule}
use Rattle.channel_validation.proofs.whole.info_valid.Goals as goal

pub returns : goal.returns
unfolding info_rule
returns c base =
    rw (
      c.pick.ensures,
      c.fm_valid.ensures base,
      c.pick-digital.ensures,
      c.m17_valid.ensures base,
      c.dmr_valid.ensures base,
    )
    (simp valid-cond)
