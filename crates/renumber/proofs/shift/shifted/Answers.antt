-- Each arm answers as the definition's rule for it.
use Rattle.renumber.proofs.Laws.{shift_none, raise-up, raise-stays, lower-down, lower-stays}
use native.Mathlib.Omega.{arith}
use Rattle.renumber.proofs.shift.shifted.Goals as goal

pub returns-then-x-eq65535 : goal.returns-then-x-eq65535
returns-then-x-eq65535 c = shift_none c.args.s c.args.x c.if-x-eq65535.true

pub returns-then-i-x : goal.returns-then-i-x
returns-then-i-x c = raise-up _ _ _ c.in-Raise.is c.if-x-eq65535.false (omega arith)

pub returns-then-i-x-2 : goal.returns-then-i-x-2
returns-then-i-x-2 c = lower-down _ _ _ c.in-Lower.is c.if-x-eq65535.false (omega arith)

pub returns-else-i-x : goal.returns-else-i-x
returns-else-i-x c = raise-stays _ _ _ c.in-Raise.is (omega arith)

pub returns-else-i-x-2 : goal.returns-else-i-x-2
returns-else-i-x-2 c = lower-stays _ _ _ c.in-Lower.is (omega arith)
