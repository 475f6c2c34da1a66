-- Each arm answers as the definition's rule for it; the sum's high bytes do not count, and the mask is a remainder.
use Rattle.renumber.proofs.Laws.{grown-more, grown-fewer, grown-none}
use lib.Bits.{and_mask}
use native.Mathlib.Omega.{arith}
use Rattle.renumber.proofs.shift.grown.Goals as goal

pub overflow_cast-result-in-More-2 : goal.overflow_cast-result-in-More-2
overflow_cast-result-in-More-2 c = rw (and_mask _ 32) (omega arith)

pub returns-then-x-n : goal.returns-then-x-n
returns-then-x-n c = grown-none _ _ _ c.in-Fewer.is (omega arith)

pub returns-in-More : goal.returns-in-More
returns-in-More c = rw (and_mask _ 32) (grown-more _ _ _ c.in-More.is)

pub returns-else-x-n : goal.returns-else-x-n
returns-else-x-n c = grown-fewer _ _ _ c.in-Fewer.is
