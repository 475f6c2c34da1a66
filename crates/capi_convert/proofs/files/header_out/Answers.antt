-- The answer for the validity, and the texts.
use Rattle.capi_convert.proofs.Laws.{is_valid_put, header_out}
use Rattle.capi_convert.proofs.files.header_out.Goals as goal

pub header_answer-requires : goal.header_answer-requires
header_answer-requires c = λ g. c.requires (is_valid_put _ _ _ c.put_texts.ensures.0 g)

pub returns : goal.returns
returns c = header_out _ _ _ _ _ _ c.put_texts.ensures (rw (← c.header_answer.ensures) c.into.ensures)
