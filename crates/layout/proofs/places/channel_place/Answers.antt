-- Past the contacts.
use Rattle.layout.specs.Places.{channel_place}
use native.Mathlib.Omega.{arith}
use Rattle.layout.proofs.places.channel_place.Goals as goal

pub returns : goal.returns
unfolding channel_place
returns c =
    let e = c.contact_count.ensures.0 in
    (rw (c.contact_place.ensures.0, e), omega arith)
