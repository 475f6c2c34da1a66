-- What is read, from the validity and the bytes beside it.
use Rattle.codeplug.proofs.Laws.{contact-read-prevalidated}
use Rattle.capi.proofs.read.codeplug_contact_prevalidated.Goals as goal

pub returns : goal.returns
returns c = rw (← c.edition_of.ensures, ← contact-read-prevalidated _ c.args.file.now c.args.n _ _ c.contact_validity-v.ensures.0 c.contact_bytes.ensures.0) c.contact_out.ensures
