use Rattle.std.proofs.Common.{arith}
use Rattle.program_io.proofs.LineLaws.{hex_or_hyphen-none, hex_or_hyphen-some}
use Rattle.program_io.proofs.print.bytes.Goals as goal

pub returns-then-s-eq0 : goal.returns-then-s-eq0
returns-then-s-eq0 g c = rw (hex_or_hyphen-none c.args.s.now c.if-s-eq0.true) c.word.ensures

pub returns : goal.returns
returns g c = rw (hex_or_hyphen-some c.args.s.now (omega arith)) c.digits.ensures
