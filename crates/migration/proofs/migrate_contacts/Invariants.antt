-- The invariant: i contacts are migrated.
use Rattle.std.proofs.Common.{◌≡◌}
use Rattle.legacy.specs.Migration.{migrated_contact, with_records_at}
use Rattle.migration.proofs.migrate_contacts.Given as goal

abbrev pub invariant-loop-i : goal.invariant-loop-i
invariant-loop-i l = l.d ≡ with_records_at 88 migrated_contact 39 l.i l.initial.d
