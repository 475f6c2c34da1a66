-- Bytes up to 90 are floors from 0 up, bytes from 166 up those below 0.
use mathlib.Core.Path.{sym}
use borrow.Author.Tests.{le-leb}
use Rattle.channel.proofs.Laws.{latitude-up, latitude-down}
use native.Mathlib.Omega.{arith}
use Rattle.channel.proofs.values.latitude_ok.Goals as goal

pub returns-then-b-le90 : goal.returns-then-b-le90
returns-then-b-le90 c =
    rw (le-leb c.args.b 90 (omega arith)) (sym (latitude-up c.args.b (omega arith)))

pub returns-else-b-le90 : goal.returns-else-b-le90
returns-else-b-le90 c = sym (latitude-down c.args.b (omega arith))
