-- A refusal leaves the file; a valid file holds all its records, and they are migrated, the contacts first.
use Rattle.std.proofs.Common.{◌≡◌, ◌+◌, ◌*◌, ◌≤◌, length, arith, sym, ◌∙◌}
use Rattle.fields.specs.Rule.{Valid}
use Rattle.layout.specs.Places.{contact_count, channel_count, channel_place}
use Rattle.validation.specs.Validation.{validated_by}
use Rattle.legacy.specs.Reading.{legacy_file_rule}
use Rattle.legacy.specs.Migration.{migrated_by}
use Rattle.legacy_validation.specs.Validation.{legacy_validation}
use Rattle.migration.proofs.Laws.{records-inside, migrated-in-two}
use Rattle.migration.proofs.migrate.Goals as goal
use Rattle.migration.proofs.migrate.Goals.{In_ok-validity_of}

valid : (c : In_ok-validity_of) → legacy_file_rule c.args.edition c.args.f.now ≡ Valid
valid c = sym c.validity_of.ensures ∙ c.in_ok-validity_of.was

inside : (c : In_ok-validity_of)
    → (88 + contact_count c.args.f.now * 39 ≤ length c.args.f.now)
    × (channel_place c.args.f.now 0 + channel_count c.args.f.now * 90 ≤ length c.args.f.now)
inside c = records-inside _ _ (λ i. (c.slice_known-1.given i).fits) (valid c)

pub migrate_contacts-requires : goal.migrate_contacts-requires
migrate_contacts-requires c =
    omega (arith, inside (goal.at.migrate_contacts-requires c).In_ok-validity_of, c.contact_count-contacts.ensures)

pub migrate_channels-requires : goal.migrate_channels-requires
migrate_channels-requires c =
    omega (arith, inside (goal.at.migrate_channels-requires c).In_ok-validity_of, c.channel_place-start.ensures, c.channel_count-channels.ensures)

pub returns : goal.returns
unfolding legacy_validation validated_by migrated_by
returns c =
    let v = valid (goal.at.returns c).In_ok-validity_of in
    let m = migrated-in-two _ _ _ _ _ _ c.contact_count-contacts.ensures.0 c.migrate_contacts.ensures c.channel_place-start.ensures.0 c.channel_count-channels.ensures.0 c.migrate_channels.ensures in
    (rw (c.counts_of-counts.ensures, v), rw (v, m))
