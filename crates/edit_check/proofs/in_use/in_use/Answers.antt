-- Each arm knows its kinds: the definition's rule for them.
use Rattle.edit_check.proofs.in_use.in_use.Goals as goal

pub returns-in-RemoveContact : goal.returns-in-RemoveContact
returns-in-RemoveContact c =
    rw (c.some_names.ensures, c.in-RemoveContact.is)

pub returns-in-RemoveChannel : goal.returns-in-RemoveChannel
returns-in-RemoveChannel c =
    rw (c.some_holds.ensures, c.in-RemoveChannel.is)
