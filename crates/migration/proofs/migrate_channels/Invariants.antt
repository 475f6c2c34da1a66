-- The invariant: i channels are migrated.
use Rattle.std.proofs.Common.{◌≡◌}
use Rattle.legacy.specs.Migration.{migrated_channel, with_records_at}
use Rattle.migration.proofs.migrate_channels.Given as goal

abbrev pub invariant-loop-i : goal.invariant-loop-i
invariant-loop-i l = l.d ≡ with_records_at l.start migrated_channel 90 l.i l.initial.d
