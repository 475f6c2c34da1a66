-- The pieces behind the table, then those up to its end.
use native.Mathlib.Omega.{arith}
use mathlib.Core.List.{append-nil}
use Prim.Native.Nat.{◌<◌, ◌^◌}
use lib.ListN.{length}
use Rattle.plan_suffix.proofs.SuffixLaws.{BankLeft, word, bank-left, bank-table}
use Rattle.plan_suffix.proofs.bank_suffix.Goals as goal
use Rattle.plan_suffix.proofs.bank_suffix.Goals.{After-common_suffix_pieces-e, After-struct_known-1}

small : (c : After-struct_known-1) → length c.args.f.now < 2 ^ 64
small c = omega arith

left : (c : After-common_suffix_pieces-e)
    → (let e = c.args in
    BankLeft e.t e.k e.c e.a.now e.b.now e.added.now e.f.now c.common_suffix_pieces-e.result)
left c =
    let s = c in
    bank-left s.args.t s.args.k s.args.c s.args.a.now s.args.b.now s.args.added.now s.args.f.now _ s.requires
    (rw append-nil at c.common_suffix_pieces-e.ensures)

pub table_suffix-requires : goal.table_suffix-requires
table_suffix-requires c =
    let s = c in
    bank-table s.args.t s.args.k s.args.c _ s.requires

pub returns : goal.returns
returns c =
    (left (goal.at.returns c).After-common_suffix_pieces-e).goes c.if-e-rest.false c.if-e-rest-2.false _ c.table_suffix.ensures

pub returns-then-e-rest : goal.returns-then-e-rest
returns-then-e-rest c =
    (left (goal.at.returns-then-e-rest c).After-common_suffix_pieces-e).stops c.if-e-rest.true

pub returns-then-e-rest-2 : goal.returns-then-e-rest-2
returns-then-e-rest-2 c =
    (left (goal.at.returns-then-e-rest-2 c).After-common_suffix_pieces-e).stops-2 c.if-e-rest.false c.if-e-rest-2.true

pub overflow_sub-end : goal.overflow_sub-end
overflow_sub-end c =
    (left (goal.at.overflow_sub-end c).After-common_suffix_pieces-e).behind.below

pub slice_bounds-table_suffix-count : goal.slice_bounds-table_suffix-count
slice_bounds-table_suffix-count c =
    (left (goal.at.slice_bounds-table_suffix-count c).After-common_suffix_pieces-e).behind.rest

pub slice_bounds-table_suffix-start : goal.slice_bounds-table_suffix-start
slice_bounds-table_suffix-start c =
    (left (goal.at.slice_bounds-table_suffix-start c).After-common_suffix_pieces-e).behind.rest

pub slice_bounds-table_suffix-end : goal.slice_bounds-table_suffix-end
slice_bounds-table_suffix-end c =
    (left (goal.at.slice_bounds-table_suffix-end c).After-common_suffix_pieces-e).behind.inside

pub overflow_add-result : goal.overflow_add-result
overflow_add-result c =
    word ((left (goal.at.overflow_add-result c).After-common_suffix_pieces-e).behind.fits _ c.table_suffix.ensures) (small (goal.at.overflow_add-result c).After-struct_known-1)
