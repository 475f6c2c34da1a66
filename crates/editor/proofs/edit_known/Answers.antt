-- Refused by its own rules or for want of history, or planned, measured, recorded and made.
use Prim.Native.Nat.{◌≤◌}
use mathlib.Core.Path.{◌≡◌, sym, ◌∙◌}
use borrow.Author.Rules.{rules}
use borrow.Author.Tests.{leb-false}
use Rattle.std.specs.Prelude.{Err}
use Rattle.fields.proofs.Laws.{unless_fits, unless_refuses}
use lib.ListN.{length, take, length-take}
use Rattle.plan.specs.Plan.{planned}
use Rattle.preconditions.proofs.PreconditionLaws.{preconditions-inside}
use Rattle.editor.proofs.EditLaws.{preconditions-accepted, preconditions-has-layout, preconditions-short, Passes, passes, Planned, plans, changes, known-refused, known-full, known-made}
use native.Mathlib.Omega.{arith}
use Rattle.editor.proofs.edit_known.Goals as goal
use Rattle.editor.proofs.edit_known.Goals.{After-plan_of-plan, In_ok-refusal, In_ok-unless}

passed : (c : In_ok-refusal)
    → (let e = c.args in
    Passes e.edition e.k e.i e.j e.bytes.now (length e.room.now) (take e.len e.room.now))
passed c =
    let e = c.args in
    passes _ e.k e.i e.j e.bytes.now (length e.room.now) (take e.len e.room.now) _ c.refusal.ensures c.in_ok-refusal.was

plan : (c : After-plan_of-plan)
    → (let e = c.args in
    Planned e.k e.i e.j e.bytes.now (length e.room.now) (take e.len e.room.now) c.plan_of-plan.result)
plan c =
    let t = c in
    let b = t in
    let e = b.args in
    plans _ e.k e.i e.j e.bytes.now (length e.room.now) (take e.len e.room.now) _ (passed (goal.at.After-plan_of-plan c).In_ok-refusal) (λ n. (b.type_inv.bytes n).fits)
    c.plan_of-plan.ensures

pub slice_bounds-refusal-end : goal.slice_bounds-refusal-end
slice_bounds-refusal-end c =
    let b = c in
    (preconditions-inside _ b.args.room.now b.args.len b.args.history.now b.args.used b.requires).0

pub slice_bounds-refusal-end-2 : goal.slice_bounds-refusal-end-2
slice_bounds-refusal-end-2 c =
    let b = c in
    let i = preconditions-inside _ b.args.room.now b.args.len b.args.history.now b.args.used b.requires in
    simp length-take (omega arith)

pub refusal-requires : goal.refusal-requires
refusal-requires c =
    let b = c in
    preconditions-accepted _ b.args.room.now b.args.len b.args.history.now b.args.used b.requires

pub returns-in_err-refusal : goal.returns-in_err-refusal
returns-in_err-refusal c =
    let e = c.args in
    let returned : c.from_residual.result ≡ Err c.in_err-refusal.field-0.0 = search rules in
    rw returned (known-refused _ e.k e.i e.j e.bytes.now e.room.now e.len e.history.now e.used _ c.refusal.ensures _ c.in_err-refusal.was)

pub slice_bounds-plan_of-end : goal.slice_bounds-plan_of-end
slice_bounds-plan_of-end c =
    let b = c in
    (preconditions-inside _ b.args.room.now b.args.len b.args.history.now b.args.used b.requires).0

pub slice_bounds-plan_of-end-2 : goal.slice_bounds-plan_of-end-2
slice_bounds-plan_of-end-2 c =
    let b = c in
    let i = preconditions-inside _ b.args.room.now b.args.len b.args.history.now b.args.used b.requires in
    simp length-take (omega arith)

pub plan_of-plan-requires : goal.plan_of-plan-requires
plan_of-plan-requires c =
    let s = c in
    let b = s in
    let p = passed (goal.at.plan_of-plan-requires c).In_ok-refusal in
    (preconditions-has-layout _ b.args.room.now b.args.len b.args.history.now b.args.used b.requires (λ n. (s.slice_known-1.given n).fits), (p.place, p.count))

pub slice_bounds-span-end : goal.slice_bounds-span-end
slice_bounds-span-end c =
    let b = c in
    (preconditions-inside _ b.args.room.now b.args.len b.args.history.now b.args.used b.requires).0

pub slice_bounds-span-end-2 : goal.slice_bounds-span-end-2
slice_bounds-span-end-2 c =
    let b = c in
    let i = preconditions-inside _ b.args.room.now b.args.len b.args.history.now b.args.used b.requires in
    simp length-take (omega arith)

pub span-s-requires : goal.span-s-requires
span-s-requires c =
    let b = c in
    let l = preconditions-short _ b.args.room.now b.args.len b.args.history.now b.args.used b.requires in
    ((plan (goal.at.span-s-requires c).After-plan_of-plan).fits, omega arith)

pub entry_size-requires : goal.entry_size-requires
entry_size-requires c =
    let x = c in
    let b = x in
    let e = b.args in
    (changes e.room.now e.len e.history.now e.used (planned x.plan_of-plan.result e.bytes.now (take e.len e.room.now)) _ _ b.requires (plan (goal.at.entry_size-requires c).After-plan_of-plan).small c.span-s.ensures
    ).sound

-- the entry fits the history
entry-fits : (c : In_ok-unless) → c.entry_size.result ≤ length c.args.history.now
entry-fits c = unless_fits _ _ _ _ (sym c.unless.ensures ∙ c.in_ok-unless.was)

pub returns-in_err-unless : goal.returns-in_err-unless
returns-in_err-unless c =
    let e = c.args in
    let no = unless_refuses _ _ _ _ (sym c.unless.ensures ∙ c.in_err-unless.was) in
    let returned : c.from_residual-in_err-unless.result ≡ Err c.in_err-unless.field-0.0 = search rules in
    let n = c.entry_size.ensures in
    rw (returned, ← no.1)
    (known-full _ e.k e.i e.j e.bytes.now e.room.now e.len e.history.now e.used _ c.refusal.ensures c.in_ok-refusal.was
    _ (plan (goal.at.returns-in_err-unless c).After-plan_of-plan).is _ c.span-s.ensures (omega (arith, leb-false _ _ no.0)))

pub commit-requires : goal.commit-requires
commit-requires c =
    let z = c in
    let s = z in
    let x = s in
    let b = x in
    let p = plan (goal.at.commit-requires c).After-plan_of-plan in
    let f = entry-fits (goal.at.commit-requires c).In_ok-unless in
    let n = z.entry_size.ensures in
    (((_, b.requires), p.fits), ((p.roomy, p.small), (s.span-s.ensures, omega arith)))

pub returns : goal.returns
returns c =
    let m = c in
    let z = m in
    let s = z in
    let x = s in
    let t = x in
    let e = t.args in
    let n = z.entry_size.ensures in
    let f = entry-fits (goal.at.returns c).In_ok-unless in
    m.commit.ensures
    ∙ known-made _ e.k e.i e.j e.bytes.now e.room.now e.len e.history.now e.used _ t.refusal.ensures t.in_ok-refusal.was
    _ (plan (goal.at.returns c).After-plan_of-plan).is _ s.span-s.ensures (omega arith)
