-- Three stores, of the characters of the group's digits.
use native.Mathlib.Omega.{arith}
use Rattle.fields.proofs.Laws.{over-three}
use Rattle.m17_groups.proofs.write_full.Goals as goal

pub returns : goal.returns
returns c =
    let d = c.digits_of-digits.ensures in
    rw (c.character-3.ensures, c.character-2.ensures, c.character.ensures, d.0, d.1, d.2) (over-three _ _ _ _ _ (omega arith))
