-- A head of 34 bytes and two for each entry.
use Rattle.layout.specs.Banks.{next_bank}
use native.Mathlib.Omega.{arith}
use Rattle.layout.proofs.places.next_bank.Goals as goal

pub returns : goal.returns
unfolding next_bank
returns c = omega arith
