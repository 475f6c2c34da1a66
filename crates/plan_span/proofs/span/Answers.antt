-- Each plan by its own function.
use Rattle.plan.specs.Fits.{Fits}
use Rattle.plan.specs.Plan.{planned}
use Rattle.plan_span.proofs.span.Goals as goal

pub replace_span-requires : goal.replace_span-requires
unfolding Fits
replace_span-requires c = rw c.in-Replace.is at c.requires.0

pub channels_span-requires : goal.channels_span-requires
channels_span-requires c =
    let s = c in
    (rw c.in-Channels.is at s.requires.0, s.requires.1)

pub returns-in-Replace : goal.returns-in-Replace
unfolding planned
returns-in-Replace c = rw c.in-Replace.is c.replace_span.ensures

pub contacts_span-requires : goal.contacts_span-requires
contacts_span-requires c =
    rw c.in-Contacts.is at c.requires.0

pub entries_span-requires : goal.entries_span-requires
entries_span-requires c =
    rw c.in-Entries.is at c.requires.0

pub add_bank_span-requires : goal.add_bank_span-requires
add_bank_span-requires c =
    rw c.in-AddBank.is at c.requires.0

pub drop_bank_span-requires : goal.drop_bank_span-requires
drop_bank_span-requires c =
    rw c.in-DropBank.is at c.requires.0

pub returns-in-Contacts : goal.returns-in-Contacts
returns-in-Contacts c =
    rw c.in-Contacts.is c.contacts_span.ensures

pub returns-in-Channels : goal.returns-in-Channels
returns-in-Channels c =
    rw c.in-Channels.is c.channels_span.ensures

pub returns-in-Entries : goal.returns-in-Entries
returns-in-Entries c =
    rw c.in-Entries.is c.entries_span.ensures

pub returns-in-AddBank : goal.returns-in-AddBank
returns-in-AddBank c =
    rw c.in-AddBank.is c.add_bank_span.ensures

pub returns-in-DropBank : goal.returns-in-DropBank
returns-in-DropBank c =
    rw c.in-DropBank.is c.drop_bank_span.ensures
