-- The test's two cases, in Bools.
use mathlib.Core.Path.{◌≡◌, refl}
use mathlib.Core.Bool.{Bool, true, false, ◌&&◌, ◌||◌, not, cond}
use Rattle.fields.proofs.rule.pick.Goals as goal

picked : (test a b : Bool) → (test && a) || (not test && b) ≡ cond test a b
picked true true b = refl
picked true false b = refl
picked false a b = refl

pub returns : goal.returns
returns c = picked c.args.test c.args.a c.args.b
