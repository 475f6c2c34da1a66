-- The record's fields are the callees' answers, put in from the last call's on.
use Rattle.channel_reader.specs.Reading.{dmr_of}
use Rattle.channel_reader.proofs.dmr_of.Goals as goal

pub returns : goal.returns
unfolding dmr_of
returns c =
    rw (
      c.contact_index_of.ensures,
      c.le16.ensures,
      c.byte_at-2.ensures,
      c.from.ensures,
      c.byte_at.ensures,
    )
