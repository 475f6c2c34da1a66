-- The exchange, validated, and taken back where the result is refused.
use mathlib.Core.Path.{sym, ◌∙◌}
use lib.ListN.{length-take}
use Rattle.undo.proofs.ExchangeLaws.{longer-valid, longer-bad}
use native.Mathlib.Omega.{arith}
use Rattle.undo.proofs.revert.revert_longer.Goals as goal

pub slice_bounds-validity_of-end-2 : goal.slice_bounds-validity_of-end-2
slice_bounds-validity_of-end-2 c = simp length-take (omega arith)

pub returns-then-is_ok : goal.returns-then-is_ok
returns-then-is_ok c =
    let e = c.args in
    let q = c.requires in
    longer-valid e.room.now e.history.now _ _ _ e.len e.p e.k e.body e.m _ q.0.0 q.0.1 q.1.0.0 q.1.1 _
    q.1.0.1 c.rotate.ensures c.swap.ensures c.validity_of.ensures (sym c.is_ok.ensures.value ∙ c.if-is_ok.true)

pub returns : goal.returns
returns c =
    let e = c.args in
    let q = c.requires in
    longer-bad e.room.now e.history.now _ _ _ e.len e.p e.k e.body e.m _ q.0.0 q.0.1 q.1.0.0 q.1.1 _
    q.1.0.1 c.rotate.ensures c.swap.ensures c.validity_of.ensures _ _ _
    (sym c.is_ok.ensures.value ∙ c.if-is_ok.false) c.swap-2.ensures c.rotate-2.ensures
