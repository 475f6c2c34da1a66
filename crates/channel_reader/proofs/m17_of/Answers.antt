-- The record's fields are the callees' answers, put in from the last call's on.
use Rattle.channel_reader.specs.Reading.{m17_of}
use Rattle.channel_reader.proofs.m17_of.Goals as goal

pub returns : goal.returns
unfolding m17_of
returns c =
    let d = c in
    rw (
      c.byte_at-3.ensures,
      c.contact_index_of-contact.ensures,
      c.le16.ensures,
      c.from-h.ensures,
      c.byte_at-2.ensures,
      d.from-access.ensures,
      d.byte_at.ensures,
    )
