-- Every field lies inside a whole record, so what is left of the rule is its tests, and the info by the mode.
use Rattle.fields.proofs.Laws.{valid-both, valid-field, valid-cond}
use Rattle.contact.specs.Contact.{mode_ok}
use Rattle.contact_validation.proofs.whole.is_valid_by.Goals as goal

pub returns : goal.returns
unfolding mode_ok
returns c base =
    let whole = c.requires in
    let e = c in
    rw (c.text_ok.ensures, e.pick-info.ensures, e.m17_valid.ensures base, e.dmr_valid.ensures base)
    (simp (valid-both, valid-field, valid-cond, whole))
