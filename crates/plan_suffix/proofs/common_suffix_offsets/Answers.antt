use native.Mathlib.Omega.{arith}
use mathlib.Core.Path.{◌∙◌}
use Rattle.renumber.specs.Shift.{growth_of}
use Rattle.plan_suffix.specs.Suffix.{new_offsets}
use Rattle.plan_suffix.proofs.SuffixLaws.{Iteration, iteration, suffix-done}
use Rattle.plan_suffix.proofs.common_suffix_offsets.Goals as goal
use Rattle.plan_suffix.proofs.common_suffix_offsets.Goals.{After-common_suffix-same}

turned : (c : After-common_suffix-same)
    → (let a = c.args in
    let l = c.loop-i in
    Iteration a.s.now (new_offsets a.t a.f.now) (growth_of a.t.growth) a.f.now a.t.start l.i l.e c.common_suffix-same.result)
turned c =
    let a = c.args in
    let l = c.loop-i in
    iteration a.s.now (new_offsets a.t a.f.now) (growth_of a.t.growth) a.f.now _ a.t.start l.i l.e _
    c.loop-i-test.true l.invariant.0 l.invariant.1
    (c.bytes32-x.ensures ∙ (c.grown.ensures ∙ rw c.le32.ensures)) c.common_suffix-same.ensures

pub overflow_add-e : goal.overflow_add-e
overflow_add-e c = omega (arith, (turned c).room)

pub returns-then-same-lt4 : goal.returns-then-same-lt4
returns-then-same-lt4 c =
    (turned (goal.at.returns-then-same-lt4 c).After-common_suffix-same).stops c.if-same-lt4.true

pub loop-i-preserved : goal.loop-i-preserved
loop-i-preserved c =
    let t = turned (goal.at.loop-i-preserved c).After-common_suffix-same in
    (t.room, t.goes c.if-same-lt4.false)

pub returns : goal.returns
returns c =
    let a = c.args in
    let l = c.loop-i in
    suffix-done a.s.now _ (growth_of a.t.growth) a.f.now a.t.start l.i l.e (omega arith) l.invariant.1
