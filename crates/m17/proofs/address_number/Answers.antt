-- Each variant's number is the definition's.
use Rattle.m17.specs.Address.{address_number}
use Rattle.m17.proofs.address_number.Goals as goal

pub returns-in-Callsign : goal.returns-in-Callsign
unfolding address_number
returns-in-Callsign c = rw c.in-Callsign.is

pub returns-in-Broadcast : goal.returns-in-Broadcast
unfolding address_number
returns-in-Broadcast c = rw c.in-Broadcast.is
