-- Past the channels.
use Rattle.layout.specs.Places.{offset_place}
use native.Mathlib.Omega.{arith}
use Rattle.layout.proofs.places.offset_place.Goals as goal

pub returns : goal.returns
unfolding offset_place
returns c = (rw (c.channel_place.ensures.0, c.channel_count.ensures.0), omega arith)
