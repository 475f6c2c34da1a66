-- The record's fields are the callees' answers, put in from the last call's on.
use Rattle.channel_reader.specs.Reading.{channel_of}
use Rattle.channel_reader.proofs.channel_of.Goals as goal

pub returns : goal.returns
unfolding channel_of
returns c =
    rw (
      c.bytes32-2.ensures,
      c.bytes32.ensures,
      c.info_of-info.ensures,
      c.common_of-common.ensures,
    )
