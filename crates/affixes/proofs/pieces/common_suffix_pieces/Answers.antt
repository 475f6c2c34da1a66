use native.Mathlib.Omega.{arith}
use Prim.Native.Nat.{◌-◌}
use mathlib.Core.List.{[]}
use mathlib.Core.Path.{◌≡◌}
use lib.ListN.{take, get_or}
use Rattle.affixes.proofs.PieceLaws.{Turn, turn, turn-done, joined, joined-last}
use Rattle.affixes.proofs.pieces.common_suffix_pieces.Goals as goal
use Rattle.affixes.proofs.pieces.common_suffix_pieces.Goals.{After-common_suffix-same}

turned : (c : After-common_suffix-same)
    → (let a = c.args in
    let l = c.loop-i in
    let x = get_or a.pieces.now (l.i - 1) (record { ref_ptr = (0, 0); now = [] }) in
    Turn a.s.now (joined a.pieces.now) (joined (take (l.i - 1) a.pieces.now)) x.now l.e c.common_suffix-same.result)
turned c =
    let a = c.args in
    let l = c.loop-i in
    turn a.s.now (joined a.pieces.now) (joined (take l.i a.pieces.now)) _ _ l.e _ l.invariant.0 l.invariant.1
    (joined-last a.pieces.now l.i _ c.loop-i-test.true (omega arith)) c.common_suffix-same.ensures

pub overflow_add-e : goal.overflow_add-e
overflow_add-e c = omega (arith, (turned c).room)

pub returns-then-same-piece : goal.returns-then-same-piece
returns-then-same-piece c = (turned (goal.at.returns-then-same-piece c).After-common_suffix-same).stops c.if-same-piece.true

pub loop-i-preserved : goal.loop-i-preserved
loop-i-preserved c =
    let t = turned (goal.at.loop-i-preserved c).After-common_suffix-same in
    (t.room, t.goes c.if-same-piece.false)

pub returns : goal.returns
returns c =
    let none : c.loop-i.i ≡ 0 = omega arith in
    turn-done c.args.s.now (joined c.args.pieces.now) c.loop-i.e (rw none at c.loop-i.invariant.1)
