-- The invariant: from i on no character is foreign, and the sum is the number of these characters, which `address_room` bounds; past the text there are none.
use mathlib.Core.Path.{◌≡◌}
use lib.ListN.{length, drop}
use Rattle.m17.specs.Address.{address_of, first_foreign}
use Rattle.m17_encoder.proofs.number.Given as goal

abbrev pub invariant-loop-i : goal.invariant-loop-i
invariant-loop-i l = (l.sum ≡ address_of (drop l.i l.s)) × (first_foreign (drop l.i l.s) ≡ length (drop l.i l.s))
