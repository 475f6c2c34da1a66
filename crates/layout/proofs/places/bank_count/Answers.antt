-- The two bytes of the count.
use Rattle.layout.specs.Places.{bank_count}
use borrow.Author.Rules.{rules}
use Rattle.layout.proofs.places.bank_count.Goals as goal

pub returns : goal.returns
unfolding bank_count
returns c = search rules
