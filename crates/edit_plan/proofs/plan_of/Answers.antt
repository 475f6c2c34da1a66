-- Each arm knows its kind; a second place that is not used is 0.
use mathlib.Core.Path.{refl}
use Rattle.edit_plan.proofs.PlanLaws.{replace-contact-there, replace-contact, preamble-over, ready-as, ready_at, makes-as, makes-at}
use native.Mathlib.Omega.{arith}
use Rattle.edit_plan.proofs.plan_of.Goals as goal

pub contact_place-requires : goal.contact_place-requires
contact_place-requires c =
    let e = c in
    let h = ready_at _ _ _ _ _ refl c.in-ReplaceContact.is e.requires in
    omega (arith, replace-contact-there e.args.f.now e.requires.0.bytes e.args.i 0 h)

pub returns-in-ReplaceContact : goal.returns-in-ReplaceContact
returns-in-ReplaceContact c =
    let k = c.in-ReplaceContact.is in
    let p = c.requires in
    makes-at _ _ _ _ _ _ refl k p (replace-contact _ p.0.bytes _ _ (ready_at _ _ _ _ _ refl k p) c.contact_place.ensures.0)

pub returns-in-SetHeader : goal.returns-in-SetHeader
returns-in-SetHeader c =
    let k = c.in-SetHeader.is in
    let p = c.requires in
    makes-at _ _ _ _ _ _ refl k p (preamble-over _ p.0.bytes _ (ready_at _ _ _ _ _ refl k p))

pub insert_contact-requires : goal.insert_contact-requires
insert_contact-requires c =
    ready_at _ _ _ _ _ refl c.in-InsertContact.is c.requires

pub remove_contact-requires : goal.remove_contact-requires
remove_contact-requires c =
    ready_at _ _ _ _ _ refl c.in-RemoveContact.is c.requires

pub insert_channel-requires : goal.insert_channel-requires
insert_channel-requires c =
    ready_at _ _ _ _ _ refl c.in-InsertChannel.is c.requires

pub remove_channel-requires : goal.remove_channel-requires
remove_channel-requires c =
    ready_at _ _ _ _ _ refl c.in-RemoveChannel.is c.requires

pub replace_channel-requires : goal.replace_channel-requires
replace_channel-requires c =
    ready_at _ _ _ _ _ refl c.in-ReplaceChannel.is c.requires

pub insert_bank-requires : goal.insert_bank-requires
insert_bank-requires c =
    ready_at _ _ _ _ _ refl c.in-InsertBank.is c.requires

pub remove_bank-requires : goal.remove_bank-requires
remove_bank-requires c =
    ready_at _ _ _ _ _ refl c.in-RemoveBank.is c.requires

pub rename_bank-requires : goal.rename_bank-requires
rename_bank-requires c =
    ready_at _ _ _ _ _ refl c.in-RenameBank.is c.requires

pub insert_entry-requires : goal.insert_entry-requires
insert_entry-requires c =
    ready-as _ _ _ _ _ c.in-InsertEntry.is c.requires

pub remove_entry-requires : goal.remove_entry-requires
remove_entry-requires c =
    ready-as _ _ _ _ _ c.in-RemoveEntry.is c.requires

pub returns-in-InsertContact : goal.returns-in-InsertContact
returns-in-InsertContact c =
    makes-at _ _ _ _ _ _ refl c.in-InsertContact.is c.requires c.insert_contact.ensures

pub returns-in-RemoveContact : goal.returns-in-RemoveContact
returns-in-RemoveContact c =
    makes-at _ _ _ _ _ _ refl c.in-RemoveContact.is c.requires c.remove_contact.ensures

pub returns-in-InsertChannel : goal.returns-in-InsertChannel
returns-in-InsertChannel c =
    makes-at _ _ _ _ _ _ refl c.in-InsertChannel.is c.requires c.insert_channel.ensures

pub returns-in-RemoveChannel : goal.returns-in-RemoveChannel
returns-in-RemoveChannel c =
    makes-at _ _ _ _ _ _ refl c.in-RemoveChannel.is c.requires c.remove_channel.ensures

pub returns-in-ReplaceChannel : goal.returns-in-ReplaceChannel
returns-in-ReplaceChannel c =
    makes-at _ _ _ _ _ _ refl c.in-ReplaceChannel.is c.requires c.replace_channel.ensures

pub returns-in-InsertBank : goal.returns-in-InsertBank
returns-in-InsertBank c =
    makes-at _ _ _ _ _ _ refl c.in-InsertBank.is c.requires c.insert_bank.ensures

pub returns-in-RemoveBank : goal.returns-in-RemoveBank
returns-in-RemoveBank c =
    makes-at _ _ _ _ _ _ refl c.in-RemoveBank.is c.requires c.remove_bank.ensures

pub returns-in-RenameBank : goal.returns-in-RenameBank
returns-in-RenameBank c =
    makes-at _ _ _ _ _ _ refl c.in-RenameBank.is c.requires c.rename_bank.ensures

pub returns-in-InsertEntry : goal.returns-in-InsertEntry
returns-in-InsertEntry c =
    makes-as _ _ _ _ _ _ c.in-InsertEntry.is c.insert_entry.ensures

pub returns-in-RemoveEntry : goal.returns-in-RemoveEntry
returns-in-RemoveEntry c =
    makes-as _ _ _ _ _ _ c.in-RemoveEntry.is c.remove_entry.ensures
