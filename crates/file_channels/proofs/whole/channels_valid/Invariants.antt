-- The invariant: ok says whether the first i channels are valid.
use Rattle.std.proofs.Common.{◌≡◌}
use Rattle.layout.specs.Places.{channel_place}
use Rattle.file_rule.specs.File.{channel_at}
use Rattle.fields.specs.Rule.{is_valid, each}
use Rattle.file_channels.proofs.whole.channels_valid.Given as goal

abbrev pub invariant-loop-i : goal.invariant-loop-i
invariant-loop-i l = l.ok ≡ is_valid (each (channel_at l.f) l.i 90 (channel_place l.f 0))
