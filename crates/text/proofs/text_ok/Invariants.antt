-- With no fault yet the rest behind `prev` decides, after a fault the answer is no.
use Prim.Native.Nat.{◌≤◌}
use mathlib.Core.Path.{◌≡◌}
use mathlib.Core.Bool.{cond, false}
use lib.Dec.{eqb}
use lib.ListN.{drop}
use Rattle.text.specs.Text.{text_ok}
use Rattle.text.specs.Scan.{rest_ok}
use Rattle.text.proofs.text_ok.Given as goal

abbrev pub invariant-loop-b : goal.invariant-loop-b
invariant-loop-b l = (l.faults ≤ l.b-index) × (text_ok l.s ≡ cond (eqb l.faults 0) (rest_ok l.prev (drop l.b-index l.s)) false)
