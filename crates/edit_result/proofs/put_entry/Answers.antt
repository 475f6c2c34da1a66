-- The index against the channels.
use Rattle.edit_result.proofs.ValidityLaws.{whole-number}
use Rattle.edit_result.proofs.put_entry.Goals as goal

pub returns : goal.returns
returns c =
    let n = c in
    let e = n in
    rw (
      c.unless.ensures,
      c.bank_place.ensures.0,
      n.channel_count-channels.ensures.0,
      n.le16-index.ensures,
      whole-number _ e.requires.1.1.1,
    )
