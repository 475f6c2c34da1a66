-- Linear arithmetic.
use Rattle.layout.specs.Places.{contact_place}
use borrow.Author.Rules.{rules}
use Rattle.layout.proofs.places.contact_place.Goals as goal

pub returns : goal.returns
unfolding contact_place
returns c = search rules
