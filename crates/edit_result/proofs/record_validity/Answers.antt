-- Each arm knows its kinds: the rule for them, where the kind's place is there.
use mathlib.Core.Logic.{inl, inr}
use Rattle.fields.specs.Rule.{◌then◌, unless}
use Rattle.edits.specs.ResultValidity.{may_grow}
use Rattle.edit_result.proofs.ValidityLaws.{asks-as}
use native.Mathlib.Nat.{add-zero}
use native.Mathlib.Omega.{arith}
use Rattle.edit_result.proofs.record_validity.Goals as goal

pub name_bank-requires : goal.name_bank-requires
name_bank-requires c =
    let a = asks-as _ _ _ _ _ _ c.in-InsertBank.is c.requires in
    (a.0, (a.1.0, (a.1.1, omega arith)))

pub name_bank-requires-in-RenameBank : goal.name_bank-requires-in-RenameBank
name_bank-requires-in-RenameBank c =
    let a = asks-as _ _ _ _ _ _ c.in-RenameBank.is c.requires in
    (a.0, (a.1.0, (a.1.1, omega arith)))

pub contact_place-requires : goal.contact_place-requires
unfolding may_grow unless ◌then◌
contact_place-requires c =
    asks-as _ _ _ _ _ _ c.in-InsertContact.is c.requires

pub replace_contact-requires : goal.replace_contact-requires
unfolding may_grow unless ◌then◌
replace_contact-requires c =
    asks-as _ _ _ _ _ _ c.in-ReplaceContact.is c.requires

pub put_channel-requires : goal.put_channel-requires
unfolding may_grow unless ◌then◌
put_channel-requires c =
    asks-as _ _ _ _ _ _ c.in-InsertChannel.is c.requires

pub put_channel-requires-in-ReplaceChannel : goal.put_channel-requires-in-ReplaceChannel
unfolding may_grow unless ◌then◌
put_channel-requires-in-ReplaceChannel c =
    asks-as _ _ _ _ _ _ c.in-ReplaceChannel.is c.requires

pub put_entry-requires : goal.put_entry-requires
unfolding may_grow unless ◌then◌
put_entry-requires c =
    asks-as _ _ _ _ _ _ c.in-InsertEntry.is c.requires

pub set_header-requires : goal.set_header-requires
unfolding may_grow unless ◌then◌
set_header-requires c =
    asks-as _ _ _ _ _ _ c.in-SetHeader.is c.requires

pub returns-in-InsertContact : goal.returns-in-InsertContact
unfolding may_grow unless ◌then◌
returns-in-InsertContact c =
    rw (c.validate.ensures, c.contact_place.ensures.0, c.in-InsertContact.is)

pub returns-in-ReplaceContact : goal.returns-in-ReplaceContact
unfolding may_grow unless ◌then◌
returns-in-ReplaceContact c =
    rw (c.replace_contact.ensures, c.in-ReplaceContact.is)

pub returns-in-InsertChannel : goal.returns-in-InsertChannel
unfolding may_grow unless ◌then◌
returns-in-InsertChannel c =
    rw (c.put_channel.ensures, c.in-InsertChannel.is)

pub returns-in-ReplaceChannel : goal.returns-in-ReplaceChannel
unfolding may_grow unless ◌then◌
returns-in-ReplaceChannel c =
    rw (c.put_channel-in-ReplaceChannel.ensures, c.in-ReplaceChannel.is)

pub returns-in-InsertBank : goal.returns-in-InsertBank
unfolding may_grow unless ◌then◌
returns-in-InsertBank c =
    rw (c.name_bank.ensures, c.in-InsertBank.is)

pub returns-in-RenameBank : goal.returns-in-RenameBank
unfolding may_grow unless ◌then◌
returns-in-RenameBank c =
    rw (c.name_bank-in-RenameBank.ensures, c.in-RenameBank.is, add-zero)

pub returns-in-InsertEntry : goal.returns-in-InsertEntry
unfolding may_grow unless ◌then◌
returns-in-InsertEntry c =
    rw (c.put_entry.ensures, c.in-InsertEntry.is)

pub returns-in-SetHeader : goal.returns-in-SetHeader
unfolding may_grow unless ◌then◌
returns-in-SetHeader c =
    rw (c.set_header.ensures, c.in-SetHeader.is)

pub returns-in-RemoveContact : goal.returns-in-RemoveContact
unfolding may_grow unless ◌then◌
returns-in-RemoveContact c =
    elim c.in-RemoveContact.is [
      | inl e ↦ rw e
      | inr s ↦ elim s [ inl e ↦ rw e | inr u ↦ elim u [ inl e ↦ rw e | inr e ↦ rw e ] ]
    ]
