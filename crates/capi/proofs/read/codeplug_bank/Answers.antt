-- What is read, from the validity and the bytes beside it.
use Rattle.codeplug.proofs.Laws.{bank-read}
use Rattle.capi.proofs.read.codeplug_bank.Goals as goal

pub returns : goal.returns
returns c = rw (← c.edition_of.ensures, ← bank-read _ c.args.file.now c.args.n _ _ c.bank_validity-v.ensures.0 c.bank_validity-v.ensures.1 c.bank_bytes.ensures.0) c.bank_out.ensures
