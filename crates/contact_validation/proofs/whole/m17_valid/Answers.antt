-- The address lies inside a whole record, so what is left of the rule is its test.
use Rattle.fields.proofs.Laws.{valid-field}
use Rattle.contact.specs.Contact.{m17_rule}
use Rattle.contact_validation.proofs.whole.m17_valid.Goals as goal

pub returns : goal.returns
unfolding m17_rule
returns c base =
    let whole = c.requires in
    rw (c.address_ok.ensures, c.be48.ensures.0) (simp (valid-field, whole))
