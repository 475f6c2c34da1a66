-- The invariant: the first i contacts are valid.
use Rattle.std.proofs.Common.{◌≡◌}
use Rattle.file_rule.specs.File.{contact_at}
use Rattle.fields.specs.Rule.{Valid, each}
use Rattle.file_contacts.proofs.find_contact.Given as goal

abbrev pub invariant-loop-i : goal.invariant-loop-i
invariant-loop-i l = each (contact_at l.edition l.f) l.i 39 88 ≡ Valid
