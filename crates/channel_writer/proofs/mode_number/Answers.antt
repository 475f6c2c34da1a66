-- `mode_number`: by the kind of info.
use Rattle.channel.specs.Values.{mode_number}
use Rattle.channel_writer.proofs.mode_number.Goals as goal

pub returns-in-Fm : goal.returns-in-Fm
unfolding mode_number
returns-in-Fm c = rw c.in-Fm.is

pub returns-in-Dmr : goal.returns-in-Dmr
unfolding mode_number
returns-in-Dmr c = rw c.in-Dmr.is

pub returns-in-M17 : goal.returns-in-M17
unfolding mode_number
returns-in-M17 c = rw c.in-M17.is
