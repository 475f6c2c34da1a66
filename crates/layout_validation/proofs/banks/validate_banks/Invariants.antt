-- The invariant: the banks from the i-th on, which stands at p, answer for all; the bound keeps it in range.
use Rattle.std.proofs.Common.{◌≡◌, ◌+◌, ◌*◌, ◌-◌, ◌≤◌, ◌^◌}
use Rattle.layout.specs.Places.{bank_count, offset_place}
use Rattle.layout.specs.Banks.{banks_from, banks_rule}
use Rattle.layout_validation.proofs.banks.validate_banks.Given as goal

abbrev pub invariant-loop-i : goal.invariant-loop-i
invariant-loop-i l =
    (l.p ≤ 2 ^ 25 + l.i * 2 ^ 18)
    × (banks_rule l.f ≡ banks_from l.f (bank_count l.f - l.i) (offset_place l.f 0 + l.i * 4) l.p)
