use Rattle.std.proofs.Common.{sym, ◌∙◌, arith}
use Rattle.program_io.proofs.LineLaws.{checksum_from-drop, checksum_from-end}
use Rattle.program_io.proofs.print.checksum.Goals as goal

pub loop-b-preserved : goal.loop-b-preserved
loop-b-preserved c = (c.loop-b.invariant.0 ∙ checksum_from-drop c.args.s.now c.loop-b.b-index c.loop-b.h (omega arith), omega arith)

pub returns-clause-value : goal.returns-clause-value
returns-clause-value c = sym (c.loop-b.invariant.0 ∙ checksum_from-end c.args.s.now c.loop-b.b-index c.loop-b.h (omega arith))
