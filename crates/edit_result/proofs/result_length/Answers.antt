-- Each arm knows its kinds; what is taken away is there, since the place is.
use Rattle.edit_result.proofs.LengthLaws.{bank-fits, channel-fits}
use Rattle.edit_result.proofs.ValidityLaws.{remove-channel-place, remove-bank-place}
use native.Mathlib.Omega.{arith}
use Rattle.edit_result.proofs.result_length.Goals as goal

pub overflow_sub-result-in-RemoveChannel : goal.overflow_sub-result-in-RemoveChannel
overflow_sub-result-in-RemoveChannel c =
    let e = c in
    channel-fits _ _ e.requires.0 (remove-channel-place _ _ _ _ e.requires.1.1 c.in-RemoveChannel.is)

pub bank_place-requires : goal.bank_place-requires
bank_place-requires c =
    let e = c in
    let l = remove-bank-place _ _ _ _ e.requires.1.1 c.in-RemoveBank.is in
    (e.requires.0, omega arith)

pub overflow_sub-result-in-RemoveBank : goal.overflow_sub-result-in-RemoveBank
overflow_sub-result-in-RemoveBank c =
    let t = c in
    let e = t in
    rw (c.entry_count.ensures.0, c.bank_place.ensures.0)
    (bank-fits _ _ e.requires.0 (remove-bank-place _ _ _ _ e.requires.1.1 t.in-RemoveBank.is))

pub overflow_sub-result : goal.overflow_sub-result
overflow_sub-result c =
    omega (arith, c.requires.0.header)

pub overflow_sub-result-in-RemoveEntry : goal.overflow_sub-result-in-RemoveEntry
overflow_sub-result-in-RemoveEntry c =
    omega (arith, c.requires.0.header)

pub returns-in-RemoveContact : goal.returns-in-RemoveContact
returns-in-RemoveContact c =
    rw c.in-RemoveContact.is

pub returns-in-RemoveChannel : goal.returns-in-RemoveChannel
returns-in-RemoveChannel c =
    rw c.in-RemoveChannel.is

pub returns-in-RemoveBank : goal.returns-in-RemoveBank
returns-in-RemoveBank c =
    rw (c.entry_count.ensures.0, c.bank_place.ensures.0, c.in-RemoveBank.is)

pub returns-in-RemoveEntry : goal.returns-in-RemoveEntry
returns-in-RemoveEntry c =
    rw c.in-RemoveEntry.is
