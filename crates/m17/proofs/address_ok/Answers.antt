-- A callsign's number, or broadcast's.
use Rattle.m17.specs.Address.{address_ok}
use Rattle.m17.proofs.address_ok.Goals as goal

pub returns-then-is_callsign : goal.returns-then-is_callsign
unfolding address_ok
returns-then-is_callsign c = rw (← c.is_callsign.ensures, c.if-is_callsign.true)

pub returns-else-is_callsign : goal.returns-else-is_callsign
unfolding address_ok
returns-else-is_callsign c = rw (← c.is_callsign.ensures, c.if-is_callsign.false)
