-- What is read, from the validity and the bytes beside it.
use Rattle.codeplug.proofs.Laws.{bank-read-prevalidated}
use Rattle.capi.proofs.read.codeplug_bank_prevalidated.Goals as goal

pub returns : goal.returns
returns c = rw (← bank-read-prevalidated c.args.file.now c.args.n _ _ c.bank_validity-v.ensures.0 c.bank_bytes.ensures.0) c.bank_out.ensures
