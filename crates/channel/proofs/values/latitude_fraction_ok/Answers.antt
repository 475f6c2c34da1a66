-- Of the floor's byte 90 the ten-thousandths are 0; of any other they are a fraction.
use mathlib.Core.Path.{sym}
use Rattle.channel.proofs.Laws.{fraction-ninety, fraction-other}
use Rattle.channel.specs.Values.{fraction_ok}
use native.Mathlib.Omega.{arith}
use Rattle.channel.proofs.values.latitude_fraction_ok.Goals as goal

pub returns-then-floor-eq90 : goal.returns-then-floor-eq90
returns-then-floor-eq90 c = sym (fraction-ninety c.args.floor c.args.x (omega arith))

pub returns-else-floor-eq90 : goal.returns-else-floor-eq90
unfolding fraction_ok
returns-else-floor-eq90 c = sym (fraction-other c.args.floor c.args.x (omega arith))
