-- What is read, from the validity and the bytes beside it.
use Rattle.codeplug.proofs.Laws.{channel-read-prevalidated}
use Rattle.capi.proofs.read.codeplug_channel_prevalidated.Goals as goal

pub returns : goal.returns
returns c = rw (← channel-read-prevalidated c.args.file.now c.args.n _ _ c.channel_validity-v.ensures.0 c.channel_bytes.ensures.0) c.channel_out.ensures
