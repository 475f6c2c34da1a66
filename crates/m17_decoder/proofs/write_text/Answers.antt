use Rattle.m17_decoder.proofs.WriteLaws.{begun-step, begun-done}
use native.Mathlib.Omega.{arith}
use Rattle.m17_decoder.proofs.write_text.Goals as goal

pub loop-i-preserved : goal.loop-i-preserved
loop-i-preserved c =
    let l = c.loop-i in
    rw (c.while_rest-in-loop-i.ensures, c.while_rest.ensures, c.character.ensures)
    (begun-step _ _ l.out l.i l.len l.rest l.invariant (omega arith))

pub returns : goal.returns
returns c =
    let l = c.loop-i in
    rw c.begin-start.ensures.behind at (begun-done _ _ l.out l.i l.len l.rest l.invariant (omega arith))
