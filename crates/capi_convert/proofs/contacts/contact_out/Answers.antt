-- The answer for the validity, and the name.
use Rattle.capi_convert.proofs.Laws.{is_valid_put, contact_out}
use Rattle.capi_convert.proofs.contacts.contact_out.Goals as goal

pub answer-requires : goal.answer-requires
answer-requires c = λ g. c.requires (is_valid_put _ _ _ c.put_name.ensures.0 g)

pub returns : goal.returns
returns c = contact_out _ _ _ _ _ _ c.put_name.ensures (rw (← c.answer.ensures) c.into.ensures)
