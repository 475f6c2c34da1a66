-- The two numbers over zeros, computed.
use Rattle.fields.specs.Bytes.{zeros, over, little_bytes}
use Rattle.empty_codeplug.specs.Empty.{empty_codeplug}
use Rattle.empty_codeplug.proofs.header_bytes.Goals as goal

pub returns : goal.returns
unfolding empty_codeplug zeros over little_bytes
returns c = rw (c.put_le16.ensures, c.put_le32.ensures)
