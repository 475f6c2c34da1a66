-- The invariant: ok says whether the first i contacts are valid.
use Rattle.std.proofs.Common.{◌≡◌}
use Rattle.file_rule.specs.File.{contact_at}
use Rattle.fields.specs.Rule.{is_valid, each}
use Rattle.file_contacts.proofs.whole.contacts_valid.Given as goal

abbrev pub invariant-loop-i : goal.invariant-loop-i
invariant-loop-i l = l.ok ≡ is_valid (each (contact_at l.edition l.f) l.i 39 88)
