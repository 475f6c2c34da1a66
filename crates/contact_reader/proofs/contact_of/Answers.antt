-- The name and the info.
use Rattle.contact.specs.Contact.{contact_of}
use Rattle.contact_reader.proofs.contact_of.Goals as goal

pub returns : goal.returns
unfolding contact_of
returns c = rw (c.bytes32.ensures, c.info_of.ensures)
