-- Validation of a channel, with its contact index in the file.
use Rattle.edit_result.proofs.put_channel.Goals as goal

pub returns : goal.returns
returns c = rw (c.validate.ensures, c.channel_place.ensures.0, c.index_ok-named.ensures)
