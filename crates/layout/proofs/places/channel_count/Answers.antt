-- The two bytes of the count.
use Rattle.layout.specs.Places.{channel_count}
use borrow.Author.Rules.{rules}
use Rattle.layout.proofs.places.channel_count.Goals as goal

pub returns : goal.returns
unfolding channel_count
returns c = search rules
