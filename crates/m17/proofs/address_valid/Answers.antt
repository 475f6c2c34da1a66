-- Each variant answers as the definition.
use Rattle.m17.specs.Address.{address_valid}
use Rattle.m17.proofs.address_valid.Goals as goal

pub returns-in-Callsign : goal.returns-in-Callsign
unfolding address_valid
returns-in-Callsign c = rw c.in-Callsign.is c.is_callsign.ensures

pub returns-in-Broadcast : goal.returns-in-Broadcast
unfolding address_valid
returns-in-Broadcast c = rw c.in-Broadcast.is
