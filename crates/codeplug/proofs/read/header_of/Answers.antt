-- The fields as they are read.
use Rattle.codeplug.specs.Read.{header_of}
use Rattle.codeplug.proofs.read.header_of.Goals as goal

pub returns : goal.returns
unfolding header_of
returns c =
    rw (
      c.le64.ensures,
      c.bytes32-2.ensures,
      c.bytes32.ensures,
      c.counts_of-counts.ensures,
    )
