-- The offsets, then the pieces before them.
use native.Mathlib.Omega.{arith}
use Prim.Native.Nat.{◌-◌, ◌*◌}
use mathlib.Core.Path.{◌≡◌, sym}
use mathlib.Core.List.{append_assoc, append-nil}
use lib.ListN.{length, take}
use lib.Seq.{length-take-le}
use Rattle.affixes.specs.Common.{common_suffix}
use Rattle.renumber.specs.Shift.{growth_of}
use Rattle.renumber.proofs.Laws.{length-offsets_moved}
use Rattle.plan_suffix.specs.Suffix.{new_offsets, counted_pieces, table_pieces}
use Rattle.plan_suffix.proofs.SuffixLaws.{Compared, compared}
use Rattle.plan_suffix.proofs.table_suffix.Goals as goal
use Rattle.plan_suffix.proofs.table_suffix.Goals.{After-common_suffix_pieces, After-common_suffix_offsets-e}

offsets : (c : After-common_suffix_offsets-e)
    → (let e = c.args in
    Compared e.s.now (table_pieces e.t e.c e.added.now e.f.now) (counted_pieces e.c e.added.now e.f.now)
    (e.t.many * 4) c.common_suffix_offsets-e.result)
offsets c =
    let e = c.args in
    compared e.s.now _ _ (new_offsets e.t e.f.now) _ _ (simp append_assoc)
    (length-offsets_moved e.t.many (growth_of e.t.growth) e.f.now e.t.start) c.common_suffix_offsets-e.ensures

before : (c : After-common_suffix_pieces)
    → (let e = c.args in
    c.common_suffix_pieces.result
    ≡ common_suffix (take (length e.s.now - c.common_suffix_offsets-e.result) e.s.now)
    (counted_pieces e.c e.added.now e.f.now))
before c = rw (c.bytes16-n.ensures, append-nil) at c.common_suffix_pieces.ensures

pub slice_bounds-common_suffix_pieces-length : goal.slice_bounds-common_suffix_pieces-length
slice_bounds-common_suffix_pieces-length c = sym (length-take-le _ c.args.s.now (omega arith))

pub overflow_add-result : goal.overflow_add-result
overflow_add-result c = omega (arith, (offsets (goal.at.overflow_add-result c).After-common_suffix_offsets-e).fits _ (before c))

pub returns : goal.returns
returns c =
    (offsets (goal.at.returns c).After-common_suffix_offsets-e).goes c.if-e-t.false _ (before c)

pub returns-then-e-t : goal.returns-then-e-t
returns-then-e-t c =
    (offsets (goal.at.returns-then-e-t c).After-common_suffix_offsets-e).stops c.if-e-t.true

pub slice_bounds-common_suffix_pieces-count : goal.slice_bounds-common_suffix_pieces-count
slice_bounds-common_suffix_pieces-count c =
    omega (arith, (offsets (goal.at.slice_bounds-common_suffix_pieces-count c).After-common_suffix_offsets-e).room)
