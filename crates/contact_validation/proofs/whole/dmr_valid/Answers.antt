-- Every field lies inside a whole record, so what is left of the rule is its tests.
use Rattle.fields.proofs.Laws.{valid-both, valid-field}
use Rattle.contact_validation.proofs.whole.dmr_valid.Goals as goal

pub returns : goal.returns
returns c base =
    let whole = c.requires in
    simp (valid-both, valid-field, whole)
