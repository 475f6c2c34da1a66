-- The invariant: the first i offsets are inside.
use Rattle.std.proofs.Common.{◌≡◌}
use Rattle.layout.specs.Places.{offset_place}
use Rattle.layout.specs.Banks.{offset_at}
use Rattle.fields.specs.Rule.{Valid, each}
use Rattle.layout_validation.proofs.banks.validate_offsets.Given as goal

abbrev pub invariant-loop-i : goal.invariant-loop-i
invariant-loop-i l = each (offset_at l.f) l.i 4 (offset_place l.f 0) ≡ Valid
