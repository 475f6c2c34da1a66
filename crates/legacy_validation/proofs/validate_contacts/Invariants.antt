-- The invariant: the first i contacts are valid.
use Rattle.std.proofs.Common.{◌≡◌}
use Rattle.legacy.specs.Reading.{legacy_contact_at}
use Rattle.fields.specs.Rule.{Valid, each}
use Rattle.legacy_validation.proofs.validate_contacts.Given as goal

abbrev pub invariant-loop-i : goal.invariant-loop-i
invariant-loop-i l = each (legacy_contact_at l.edition l.f) l.i 39 88 ≡ Valid
