-- `validate_info`: by the kind of info.
use mathlib.Core.Path.{◌∙◌}
use Rattle.channel_writer.proofs.validate_info.Goals as goal

pub returns-in-Fm : goal.returns-in-Fm
returns-in-Fm c = c.validate_fm.ensures ∙ rw c.in-Fm.is

pub returns-in-Dmr : goal.returns-in-Dmr
returns-in-Dmr c = c.validate_dmr.ensures ∙ rw c.in-Dmr.is

pub returns-in-M17 : goal.returns-in-M17
returns-in-M17 c = c.validate_m17.ensures ∙ rw c.in-M17.is
