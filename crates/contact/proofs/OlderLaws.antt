-- The two places where a contact's rules know the edition: by the older they are document 01's own (m17, specs/Before.antt).
use Prim.Native.Nat.{ℕ}
use mathlib.Core.Path.{◌≡◌}
use mathlib.Core.List.{List}
use Rattle.fields.specs.Bytes.{part, big}
use Rattle.fields.specs.Rule.{unless, field}
use Rattle.m17.specs.declared.Edition.TheVariants.{Older}
use Rattle.m17.specs.declared.Address.{Address}
use Rattle.m17.specs.Before.{address_ok_before, address_valid_before}
use Rattle.m17.proofs.Editions.{older-address, older-valid}
use Rattle.contact.specs.Contact.{m17_rule, info_write_rule}
use Rattle.contact.specs.declared.ContactInfo.TheVariants.{M17}
use Rattle.format.specs.declared.refusals.Reason.TheVariants as reason

pub older-contact-reads : (s : List ℕ) (base : ℕ) → m17_rule Older s base ≡ field s base 33 6 reason.Address (address_ok_before (big (part s 33 6)))
unfolding m17_rule
older-contact-reads s base = rw (older-address (big (part s 33 6)))

pub older-contact-writes : (a : Address) → info_write_rule Older (M17 a) ≡ unless (address_valid_before a) reason.Address 33
unfolding info_write_rule
older-contact-writes a = rw (older-valid a)
