-- The pieces behind the offsets, then the offsets.
use native.Mathlib.Omega.{arith}
use mathlib.Core.List.{append-nil}
use Prim.Native.Nat.{◌<◌, ◌^◌}
use lib.ListN.{length}
use Rattle.plan_suffix.proofs.SuffixLaws.{EntriesLeft, word, entries-left, entries-order, entries-table}
use Rattle.plan_suffix.proofs.entries_suffix.Goals as goal
use Rattle.plan_suffix.proofs.entries_suffix.Goals.{After-common_suffix_pieces-e, After-struct_known-1}

small : (c : After-struct_known-1) → length c.args.f.now < 2 ^ 64
small c = omega arith

left : (c : After-common_suffix_pieces-e)
    → (let e = c.args in
    EntriesLeft e.t e.c e.r.now e.f.now c.common_suffix_pieces-e.result)
left c =
    let s = c in
    entries-left s.args.t s.args.c s.args.r.now s.args.f.now _ _ s.requires c.bytes16-n.ensures
    (rw append-nil at c.common_suffix_pieces-e.ensures)

pub overflow_sub-at : goal.overflow_sub-at
overflow_sub-at c =
    let s = c in
    entries-order s.args.t s.args.c _ s.requires

pub common_suffix_offsets-requires : goal.common_suffix_offsets-requires
common_suffix_offsets-requires c =
    let s = c in
    entries-table s.args.t s.args.c _ s.requires

pub returns : goal.returns
returns c = (left (goal.at.returns c).After-common_suffix_pieces-e).goes c.if-e-at.false _ c.common_suffix_offsets.ensures

pub returns-then-e-at : goal.returns-then-e-at
returns-then-e-at c =
    (left (goal.at.returns-then-e-at c).After-common_suffix_pieces-e).stops c.if-e-at.true

pub overflow_sub-end : goal.overflow_sub-end
overflow_sub-end c =
    (left (goal.at.overflow_sub-end c).After-common_suffix_pieces-e).below

pub slice_bounds-common_suffix_offsets-count : goal.slice_bounds-common_suffix_offsets-count
slice_bounds-common_suffix_offsets-count c =
    (left (goal.at.slice_bounds-common_suffix_offsets-count c).After-common_suffix_pieces-e).rest

pub slice_bounds-common_suffix_offsets-start : goal.slice_bounds-common_suffix_offsets-start
slice_bounds-common_suffix_offsets-start c =
    (left (goal.at.slice_bounds-common_suffix_offsets-start c).After-common_suffix_pieces-e).rest

pub slice_bounds-common_suffix_offsets-end : goal.slice_bounds-common_suffix_offsets-end
slice_bounds-common_suffix_offsets-end c =
    (left (goal.at.slice_bounds-common_suffix_offsets-end c).After-common_suffix_pieces-e).inside

pub overflow_add-result : goal.overflow_add-result
overflow_add-result c =
    word ((left (goal.at.overflow_add-result c).After-common_suffix_pieces-e).fits _ c.common_suffix_offsets.ensures) (small (goal.at.overflow_add-result c).After-struct_known-1)
