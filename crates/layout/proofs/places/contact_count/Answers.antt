-- The two bytes of the count.
use Rattle.layout.specs.Places.{contact_count}
use borrow.Author.Rules.{rules}
use Rattle.layout.proofs.places.contact_count.Goals as goal

pub returns : goal.returns
unfolding contact_count
returns c = search rules
