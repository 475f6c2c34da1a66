-- The record's fields are the callees' answers, put in from the last call's on.
use Rattle.channel_reader.specs.Reading.{common_of}
use Rattle.channel_reader.proofs.common_of.Goals as goal

pub returns : goal.returns
unfolding common_of
returns c =
    let d = c in
    rw (
      c.byte_at-4.ensures,
      c.byte_at-3.ensures,
      c.le32-2.ensures,
      c.le32.ensures,
      c.byte_at-2.ensures,
      d.location_of-location.ensures,
      d.from-traits.ensures,
      d.byte_at.ensures,
    )
