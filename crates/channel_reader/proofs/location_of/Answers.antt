-- The record's fields are the callees' answers, put in from the last call's on. A signed
-- field comes back from its bits.
use mir.Syntax.{w8}
use mir.ValLaws.{to_z-of_z}
use Rattle.channel_reader.specs.Reading.{location_of}
use Rattle.channel_reader.proofs.location_of.Goals as goal

pub returns : goal.returns
unfolding location_of
returns c =
    let d = c in
    let y = c.signed_of-2 in
    let x = d.signed_of in
    rw (
      to_z-of_z w8 y.result (record { sfits = y.type_inv }),
      to_z-of_z w8 x.result (record { sfits = x.type_inv }),
      c.le16-3.ensures,
      c.le16-2.ensures,
      c.signed_of-2.ensures,
      c.byte_at-2.ensures,
      c.le16.ensures,
      d.signed_of.ensures,
      d.byte_at.ensures,
    )
