-- The record is the definition's, with 32 zeros for each text.
use mathlib.Core.Path.{refl}
use Rattle.channel_reader.specs.Reading.{blank_channel}
use Rattle.fields.specs.Bytes.{zeros}
use Rattle.channel_reader.proofs.blank.Goals as goal

pub returns : goal.returns
unfolding blank_channel zeros
returns c = refl
