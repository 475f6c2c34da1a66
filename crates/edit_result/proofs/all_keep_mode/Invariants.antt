-- The invariant: the first n channels keep the mode.
use Rattle.std.proofs.Common.{◌≡◌}
use Rattle.layout.specs.Places.{channel_place}
use Rattle.edits.specs.ResultValidity.{keeps_mode}
use Rattle.fields.specs.Rule.{Valid, each}
use Rattle.edit_result.proofs.all_keep_mode.Given as goal

abbrev pub invariant-loop-n : goal.invariant-loop-n
invariant-loop-n l = (l.start ≡ channel_place l.f 0) × (each (keeps_mode l.f l.i l.mode) l.n 90 (channel_place l.f 0) ≡ Valid)
