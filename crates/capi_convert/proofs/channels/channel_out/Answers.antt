-- The answer for the validity, and the texts; the bytes of a valid one are taken whole once more.
use mathlib.Core.Path.{◌≡◌}
use native.Mathlib.Omega.{arith}
use lib.ListN.{length}
use Rattle.fields.proofs.Laws.{part-all}
use Rattle.tones.specs.Tone.{tone_index}
use Rattle.channel_reader.specs.Reading.{channel_of, blank_channel, channel_answer}
use Rattle.capi_convert.specs.Channels.{channel_info, channel_to_c}
use Rattle.capi_convert.proofs.Laws.{is_valid_put, channel_out}
use Rattle.capi_convert.proofs.channels.channel_out.Goals as goal

pub returns-in-Err : goal.returns-in-Err
unfolding channel_to_c channel_answer blank_channel channel_info tone_index
returns-in-Err c = channel_out _ _ _ _ _ _ c.put_texts.ensures (rw (c.in-Err.is, c.into.ensures, c.blank.ensures))

pub slice_bounds-whole-end : goal.slice_bounds-whole-end
slice_bounds-whole-end c = omega (arith, c.requires (is_valid_put _ _ _ c.put_texts.ensures.0 c.in_default.is))

pub returns : goal.returns
unfolding channel_to_c channel_answer channel_of
returns c =
    let long : length c.args.s.now ≡ 90 = c.requires (is_valid_put _ _ _ c.put_texts.ensures.0 c.in_default.is) in
    channel_out _ _ _ _ _ _ c.put_texts.ensures
    (rw (c.in_default.is, c.common_of.ensures, c.channel_info.ensures, part-all c.args.s.now 90 (omega arith)))
