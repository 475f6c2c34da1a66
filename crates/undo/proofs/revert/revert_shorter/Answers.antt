-- The exchange, validated, and taken back where the result is refused.
use mathlib.Core.Path.{sym, ◌∙◌}
use lib.ListN.{length-take}
use Rattle.undo.proofs.ExchangeLaws.{shorter-valid, shorter-bad}
use native.Mathlib.Omega.{arith}
use Rattle.undo.proofs.revert.revert_shorter.Goals as goal

pub slice_bounds-validity_of-length : goal.slice_bounds-validity_of-length
slice_bounds-validity_of-length c = simp length-take (omega arith)

pub returns-then-is_ok : goal.returns-then-is_ok
returns-then-is_ok c =
    let e = c.args in
    shorter-valid e.room.now e.history.now _ _ _ e.len e.p e.k e.body e.m _ (omega arith) (omega arith) (omega arith)
    (omega arith) _ (omega arith) c.swap.ensures c.rotate.ensures c.validity_of.ensures _
    (sym c.is_ok.ensures.value ∙ c.if-is_ok.true) c.clear.ensures

pub returns : goal.returns
returns c =
    let e = c.args in
    let q = c.requires in
    shorter-bad e.room.now e.history.now _ _ _ e.len e.p e.k e.body e.m _ q.0.0 q.0.1 (omega (arith, q)) q.1.1 _
    q.1.0 c.swap.ensures c.rotate.ensures c.validity_of.ensures _ _ _
    (sym c.is_ok.ensures.value ∙ c.if-is_ok.false) c.rotate-2.ensures c.swap-2.ensures
