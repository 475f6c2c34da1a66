-- Past the table of offsets.
use Rattle.layout.specs.Places.{banks_place}
use native.Mathlib.Omega.{arith}
use Rattle.layout.proofs.places.banks_place.Goals as goal

pub returns : goal.returns
unfolding banks_place
returns c = (rw (c.offset_place.ensures.0, c.bank_count.ensures.0), omega arith)
