-- The definition's tests, with the contact of an index below the count looked at.
use Rattle.file_channels.proofs.WholeLaws.{index-named}
use Rattle.file_channels.proofs.whole.index_valid.Goals as goal

pub returns : goal.returns
returns c =
    let start = c in
    let count = start.requires.1 in
    let index = rw c.contact_index_place.ensures.0 at c.le16-index.ensures in
    let kind = rw (c.contact_place.ensures.0, c.row_of.ensures.0, count) at c.byte_at-kind.ensures in
    rw (count, ← index) (index-named start.args.f.now _ _ _ kind)
