-- Each kind of change by its own function.
use Rattle.plan_apply.proofs.MakeLaws.{replace-has-room, contacts-has-room, channels-has-room, entries-has-room, bank-has-room, drop-has-room, replaced}
use Rattle.plan_apply.proofs.make.Goals as goal

pub put-requires : goal.put-requires
put-requires c =
    let s = c in
    replace-has-room s.args.p s.args.r.now s.args.len s.args.d.now s.requires _ c.in-Replace.is

pub make_contacts-requires : goal.make_contacts-requires
make_contacts-requires c =
    let s = c in
    contacts-has-room s.args.p s.args.r.now s.args.len s.args.d.now s.requires _ _ c.in-Contacts.is

pub make_channels-requires : goal.make_channels-requires
make_channels-requires c =
    let s = c in
    channels-has-room s.args.p s.args.r.now s.args.len s.args.d.now s.requires _ _ c.in-Channels.is
    (λ i. (c.slice_known-1.given i).fits)

pub make_entries-requires : goal.make_entries-requires
make_entries-requires c =
    let s = c in
    entries-has-room s.args.p s.args.r.now s.args.len s.args.d.now s.requires _ _ c.in-Entries.is

pub make_bank-requires : goal.make_bank-requires
make_bank-requires c =
    let s = c in
    bank-has-room s.args.p s.args.r.now s.args.len s.args.d.now s.requires _ _ _ _ c.in-AddBank.is

pub drop_bank-requires : goal.drop_bank-requires
drop_bank-requires c =
    let s = c in
    drop-has-room s.args.p s.args.r.now s.args.len s.args.d.now s.requires _ _ _ c.in-DropBank.is

pub returns-in-Replace : goal.returns-in-Replace
returns-in-Replace c =
    let s = c in
    replaced s.args.p s.args.r.now s.args.len s.args.d.now s.requires _ _ c.in-Replace.is
    c.put.ensures

pub returns-in-Contacts : goal.returns-in-Contacts
returns-in-Contacts c =
    rw c.in-Contacts.is c.make_contacts.ensures

pub returns-in-Channels : goal.returns-in-Channels
returns-in-Channels c =
    rw c.in-Channels.is c.make_channels.ensures

pub returns-in-Entries : goal.returns-in-Entries
returns-in-Entries c =
    rw c.in-Entries.is c.make_entries.ensures

pub returns-in-AddBank : goal.returns-in-AddBank
returns-in-AddBank c =
    rw c.in-AddBank.is c.make_bank.ensures

pub returns-in-DropBank : goal.returns-in-DropBank
returns-in-DropBank c =
    rw c.in-DropBank.is c.drop_bank.ensures
