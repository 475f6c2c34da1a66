-- The index that is read stays or moves.
use Rattle.renumber_last.proofs.LastLaws.{index_stays, index_moves}
use Rattle.renumber.proofs.Laws.{shift_small}
use Rattle.renumber.specs.Shift.{shift_of}
use Rattle.fields.proofs.Laws.{num-lt}
use native.Mathlib.Omega.{arith}
use Rattle.renumber_last.proofs.moves_at.Goals as goal

pub returns-then-shifted-x : goal.returns-then-shifted-x
returns-then-shifted-x c =
    let s = c in
    let x = s in
    let k = x in
    let a = k.args in
    index_stays (shift_of a.s) a.f.now a.p _ _ (λ i. (k.type_inv.f i).fits) (omega arith) x.le16-x.ensures s.shifted.ensures c.if-shifted-x.true

pub returns : goal.returns
returns c =
    let s = c in
    let x = s in
    let k = x in
    let a = k.args in
    let small = shift_small a.s _ (num-lt a.f.now a.p 2 (λ i. (k.type_inv.f i).fits)) in
    index_moves (shift_of a.s) a.f.now a.p _ _ (omega arith) small x.le16-x.ensures s.shifted.ensures c.if-shifted-x.false
