use Rattle.std.proofs.Common.{arith}
use Rattle.std.proofs.KnownBytes.{Appends-nil, Appends-trans}
use Rattle.program_io.specs.Lines.{hex_bytes}
use Rattle.program_io.proofs.LineLaws.{hex_bytes-more}
use Rattle.program_io.proofs.print.digits.Goals as goal

pub loop-b-init : goal.loop-b-init
unfolding hex_bytes
loop-b-init g c = Appends-nil _

pub loop-b-preserved : goal.loop-b-preserved
loop-b-preserved g c =
    rw (hex_bytes-more c.args.s.now c.loop-b.b-index (omega arith)) (Appends-trans _ _ _ _ _ c.loop-b.invariant c.in_ok-two_digits.ensures)
