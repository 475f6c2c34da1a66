-- The name and the count as they are read.
use Rattle.codeplug.specs.Read.{bank_of}
use Rattle.codeplug.proofs.read.bank_of.Goals as goal

pub returns : goal.returns
unfolding bank_of
returns c = rw (c.le16.ensures, c.bytes32.ensures)
