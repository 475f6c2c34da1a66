-- Each arm knows its kinds: the definition's rule for them, over the counts of the file.
use mathlib.Core.Logic.{inl, inr}
use Rattle.model.proofs.PlaceLaws.{contacts-count, channels-count, banks-count}
use Rattle.edit_check.proofs.places.place_ok.Goals as goal

pub entries_in-requires : goal.entries_in-requires
entries_in-requires c =
    c.requires

pub entries_in-requires-in-RemoveEntry : goal.entries_in-requires-in-RemoveEntry
entries_in-requires-in-RemoveEntry c =
    c.requires

pub returns-in-InsertContact : goal.returns-in-InsertContact
returns-in-InsertContact c =
    rw (c.contact_count-contacts.ensures.0, c.in-InsertContact.is, contacts-count)

pub returns-in-InsertChannel : goal.returns-in-InsertChannel
returns-in-InsertChannel c =
    rw (c.channel_count-channels.ensures.0, c.in-InsertChannel.is, channels-count)

pub returns-in-InsertBank : goal.returns-in-InsertBank
returns-in-InsertBank c =
    rw (c.bank_count-banks.ensures.0, c.in-InsertBank.is, banks-count)

pub returns-in-InsertEntry : goal.returns-in-InsertEntry
returns-in-InsertEntry c =
    rw (c.entries_in.ensures.0, c.bank_count-banks.ensures.0, c.in-InsertEntry.is, banks-count)

pub returns-in-RemoveEntry : goal.returns-in-RemoveEntry
returns-in-RemoveEntry c =
    rw (c.entries_in-in-RemoveEntry.ensures.0, c.bank_count-banks.ensures.0, c.in-RemoveEntry.is, banks-count)

pub returns-in-SetHeader : goal.returns-in-SetHeader
returns-in-SetHeader c =
    rw c.in-SetHeader.is

pub returns-in-RemoveContact : goal.returns-in-RemoveContact
returns-in-RemoveContact c =
    elim c.in-RemoveContact.is [ inl e ↦ rw (c.contact_count-contacts.ensures.0, e, contacts-count) | inr e ↦ rw (c.contact_count-contacts.ensures.0, e, contacts-count) ]

pub returns-in-RemoveChannel : goal.returns-in-RemoveChannel
returns-in-RemoveChannel c =
    elim c.in-RemoveChannel.is [ inl e ↦ rw (c.channel_count-channels.ensures.0, e, channels-count) | inr e ↦ rw (c.channel_count-channels.ensures.0, e, channels-count) ]

pub returns-in-RemoveBank : goal.returns-in-RemoveBank
returns-in-RemoveBank c =
    elim c.in-RemoveBank.is [ inl e ↦ rw (c.bank_count-banks.ensures.0, e, banks-count) | inr e ↦ rw (c.bank_count-banks.ensures.0, e, banks-count) ]
