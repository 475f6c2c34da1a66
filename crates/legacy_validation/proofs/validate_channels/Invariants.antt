-- The invariant: the first i channels are valid.
use Rattle.std.proofs.Common.{◌≡◌}
use Rattle.layout.specs.Places.{channel_place}
use Rattle.legacy.specs.Reading.{legacy_channel_at}
use Rattle.fields.specs.Rule.{Valid, each}
use Rattle.legacy_validation.proofs.validate_channels.Given as goal

abbrev pub invariant-loop-i : goal.invariant-loop-i
invariant-loop-i l = each (legacy_channel_at l.f) l.i 90 (channel_place l.f 0) ≡ Valid
