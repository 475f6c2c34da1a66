-- Each arm knows its kinds: the definition's rule for them, over the counts of the file.
use Rattle.model.proofs.PlaceLaws.{contacts-count, channels-count, banks-count}
use Rattle.edit_check.proofs.places.count_ok.Goals as goal

pub entries_in-requires : goal.entries_in-requires
entries_in-requires c =
    c.requires

pub returns-in-InsertContact : goal.returns-in-InsertContact
returns-in-InsertContact c =
    rw (c.contact_count.ensures.0, c.in-InsertContact.is, contacts-count)

pub returns-in-InsertChannel : goal.returns-in-InsertChannel
returns-in-InsertChannel c =
    rw (c.channel_count.ensures.0, c.in-InsertChannel.is, channels-count)

pub returns-in-InsertBank : goal.returns-in-InsertBank
returns-in-InsertBank c =
    rw (c.bank_count.ensures.0, c.in-InsertBank.is, banks-count)

pub returns-in-InsertEntry : goal.returns-in-InsertEntry
returns-in-InsertEntry c =
    rw (c.entries_in.ensures.0, c.in-InsertEntry.is)
