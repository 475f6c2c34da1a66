-- As the definition has it.
use mathlib.Core.Path.{refl}
use Rattle.contact.specs.Contact.{blank_contact}
use Rattle.fields.specs.Bytes.{zeros}
use Rattle.contact_reader.proofs.blank.Goals as goal

pub returns : goal.returns
unfolding blank_contact zeros
returns c = refl
