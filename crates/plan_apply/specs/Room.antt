-- How the code goes about it: what a change made in place asks of the buffer d, whose first len bytes it changes.
use Rattle.std.specs.Prelude.{ℕ, ◌+◌, ◌^◌, ◌≤◌, ◌<◌, List, length, take}
use Rattle.plan.specs.declared.Counted.{Counted}
use Rattle.plan.specs.declared.Plan.{Plan}
use Rattle.plan.specs.Plan.{planned}
use Rattle.plan.specs.Fits.{Fits}

-- they are there, and r has room in place of the bytes that are cut
abbrev pub HasRoom : Counted → List ℕ → ℕ → List ℕ → Type 0
HasRoom c r len d = (len ≤ length d) × (len + length r ≤ length d + c.gone)

-- the count stands before the cut, the cut inside them, and r has room
abbrev pub CutHasRoom : Counted → List ℕ → ℕ → List ℕ → Type 0
CutHasRoom c r len d = ((c.counter + 2 ≤ c.at) × (c.at + c.gone ≤ len)) × HasRoom c r len d

-- a plan fits them, and what it makes of them has room
abbrev pub PlanHasRoom : Plan → List ℕ → ℕ → List ℕ → Type 0
PlanHasRoom p r len d =
    Fits p r (take len d) × (((len ≤ length d) × (len < 2 ^ 32)) × (length (planned p r (take len d)) ≤ length d))
