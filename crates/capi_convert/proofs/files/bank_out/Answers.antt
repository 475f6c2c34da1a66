-- The answer for the validity, and the name.
use Rattle.capi_convert.proofs.Laws.{is_valid_put, bank_out}
use Rattle.capi_convert.proofs.files.bank_out.Goals as goal

pub bank_answer-requires : goal.bank_answer-requires
bank_answer-requires c = λ g. c.requires (is_valid_put _ _ _ c.put_name.ensures.0 g)

pub returns : goal.returns
returns c = bank_out _ _ _ _ _ _ c.put_name.ensures (rw (← c.bank_answer.ensures) c.into.ensures)
