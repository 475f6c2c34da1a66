-- What is read, from the validity and the bytes beside it.
use Rattle.codeplug.proofs.Laws.{channel-read}
use Rattle.capi.proofs.read.codeplug_channel.Goals as goal

pub returns : goal.returns
returns c = rw (← c.edition_of.ensures, ← channel-read _ c.args.file.now c.args.n _ _ c.channel_validity-v.ensures.0 c.channel_bytes.ensures.0) c.channel_out.ensures
