-- A file that may not grow refuses the edit, whatever its record is.
use mathlib.Core.Path.{◌≡◌, sym, ◌∙◌}
use borrow.Author.Rules.{rules}
use Rattle.edit_result.proofs.ValidityLaws.{growth_refused}
use Rattle.edit_result.proofs.result_validity.Goals as goal

pub returns-in_err-may_grow : goal.returns-in_err-may_grow
returns-in_err-may_grow c =
    let a = c.args in
    let returned : c.from_residual.result ≡ c.may_grow.result = search rules in
    let refused = growth_refused a.edition a.k a.i a.j a.r.now a.f.now _ (sym c.may_grow.ensures ∙ c.in_err-may_grow.was) in
    returned ∙ c.in_err-may_grow.was ∙ sym refused
