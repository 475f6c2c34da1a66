-- The test is the definition's.
use mathlib.Core.Path.{refl}
use Rattle.channel.specs.Values.{fraction_ok}
use Rattle.channel.proofs.values.fraction_ok.Goals as goal

pub returns : goal.returns
unfolding fraction_ok
returns c = refl
