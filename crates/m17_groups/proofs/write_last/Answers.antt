-- Three stores, of a character and two more where the group has them.
use mathlib.Core.Path.{sym}
use native.Mathlib.Omega.{arith}
use Rattle.fields.proofs.Laws.{over-three}
use Rattle.m17_groups.proofs.Laws.{last-places, last-count}
use Rattle.m17_groups.proofs.write_last.Goals as goal

pub returns : goal.returns
returns c =
    let d = c.digits_of-digits.ensures in
    let g = c.args.group in (
      rw (c.while_rest-4.ensures, c.while_rest-3.ensures) (sym (last-count g (omega arith))),
      rw (c.while_rest-2.ensures, c.character-3.ensures, c.while_rest.ensures, c.character-2.ensures, c.character.ensures, d.0, d.1, d.2)
          (rw (last-places g (omega arith) (omega arith)) (over-three _ _ _ _ _ (omega arith))),
    )
