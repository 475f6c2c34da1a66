-- The record's fields are the callees' answers, put in from the last call's on.
use Rattle.channel_reader.specs.Reading.{fm_of}
use Rattle.channel_reader.proofs.fm_of.Goals as goal

pub returns : goal.returns
unfolding fm_of
returns c =
    rw (
      c.tone_of-2.ensures,
      c.byte_at-2.ensures,
      c.tone_of.ensures,
      c.byte_at.ensures,
    )
