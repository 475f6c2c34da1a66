-- The sum of the whole is the sum so far and of what is left.
use Rattle.std.proofs.Common.{◌≡◌, ◌<◌, drop}
use Rattle.program_io.specs.Lines.{checksum_from}
use Rattle.program_io.proofs.print.checksum.Given as goal

abbrev pub invariant-loop-b : goal.invariant-loop-b
invariant-loop-b l = (checksum_from 0 l.s ≡ checksum_from l.h (drop l.b-index l.s)) × (l.h < 2147483647)
