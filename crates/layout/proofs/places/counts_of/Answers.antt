-- The three counts as they are read.
use Rattle.layout.specs.Places.{contact_count, channel_count, bank_count, counts_of}
use Rattle.layout.proofs.places.counts_of.Goals as goal

pub returns : goal.returns
unfolding counts_of contact_count channel_count bank_count
returns c = rw (c.le16-3.ensures, c.le16-2.ensures, c.le16.ensures)
