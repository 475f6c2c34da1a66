-- The tests before the result is read, then reading it, then the room.
use mathlib.Core.Path.{◌≡◌, ◌∙◌}
use borrow.Author.Rules.{rules}
use Rattle.edits.proofs.AcceptedCodeplug.{has-layout}
use Rattle.edit_check.proofs.RefusalLaws.{Passed, early-passed, refused-read, refused-room}
use Rattle.edit_check.proofs.refusal.refusal.Goals as goal
use Rattle.edit_check.proofs.refusal.refusal.Goals.{In_ok-early_refusal}

-- what the edit has once the first tests let it through
passed : (c : In_ok-early_refusal) → Passed c.args.k c.args.i c.args.j c.args.r.now c.args.f.now
passed c =
    let a = c.args in
    early-passed a.k a.i a.j a.r.now a.f.now _ c.early_refusal.ensures c.in_ok-early_refusal.was

pub early_refusal-requires : goal.early_refusal-requires
early_refusal-requires c = has-layout _ c.args.f.now c.requires (λ i. (c.type_inv.f i).fits)

pub result_validity-requires : goal.result_validity-requires
result_validity-requires c =
    let p = passed (goal.at.result_validity-requires c).In_ok-early_refusal in
    (has-layout _ c.args.f.now c.requires (λ i. (c.type_inv.f i).fits), (p.wide, p.place))

pub returns-in_err-result_validity : goal.returns-in_err-result_validity
returns-in_err-result_validity c =
    let a = c.args in
    let returned : c.from_residual-in_err-result_validity.result ≡ c.result_validity.result = search rules in
    returned
    ∙ refused-read a.k a.i a.j a.r.now a.f.now a.room _ _ c.early_refusal.ensures c.in_ok-early_refusal.was
    (λ i. (c.type_inv.f i).fits) (λ i. (c.type_inv.r i).fits) c.requires _ _ c.result_validity.ensures c.in_err-result_validity.was

pub result_length-requires : goal.result_length-requires
result_length-requires c =
    let p = passed (goal.at.result_length-requires c).In_ok-early_refusal in
    (has-layout _ c.args.f.now c.requires (λ i. (c.type_inv.f i).fits), (_, p.place))

pub returns : goal.returns
returns c =
    let a = c.args in
    refused-room a.k a.i a.j a.r.now a.f.now a.room _ _ c.early_refusal.ensures c.in_ok-early_refusal.was
    (λ i. (c.type_inv.f i).fits) (λ i. (c.type_inv.r i).fits) c.requires _ _ _ c.result_validity.ensures c.in_ok-result_validity.was
    c.result_length.ensures c.unless.ensures
