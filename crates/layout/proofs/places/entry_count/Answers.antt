-- The two bytes of the count.
use Rattle.layout.specs.Banks.{entry_count}
use borrow.Author.Rules.{rules}
use Rattle.layout.proofs.places.entry_count.Goals as goal

pub returns : goal.returns
unfolding entry_count
returns c = search rules
