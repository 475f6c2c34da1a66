-- A channel written from its numbers.
use Rattle.std.specs.Prelude.{◌≡◌, ℕ, cond, List, length, eqb, leb}
use Rattle.fields.specs.Rule.{◌then◌, unless, written}
use Rattle.tones.specs.Tone.{tone_from}
use Rattle.channel.specs.Values.{mode_ok, contact_index_of}
use Rattle.channel.specs.declared.Common.{Common}
use Rattle.channel.specs.declared.Info.{Info}
use Rattle.channel.specs.declared.Info.TheVariants.{Fm, Dmr, M17}
use Rattle.channel_writer.specs.Writing.{channel_write_rule, channel_bytes}
use Rattle.capi_numbers.specs.Numbers.{refusal_of}
use Rattle.capi_numbers.specs.declared.RefusalAnswer.{RefusalAnswer}
use Rattle.capi_numbers.specs.declared.ChannelInfo.{ChannelInfo}
use Rattle.format.specs.declared.refusals.Reason.TheVariants as reason
use Rattle.fields.specs.Rule.{Validity}

-- what the numbers mean, the other modes' unread; only of use where the mode is valid
unfoldable pub info_from : ChannelInfo → Info
info_from v =
    cond (eqb v.mode 0)
    (Fm (record {
      receive = tone_from v.receive_tone v.receive_tone_on;
      transmit = tone_from v.transmit_tone v.transmit_tone_on;
    }))
    (cond (eqb v.mode 1)
    (Dmr (record {
      colours = v.colours;
      slot = v.slot;
      contact = contact_index_of v.contact;
    }))
    (M17 (record {
      access = v.access;
      operation = v.operation;
      encryption = v.encryption;
      position = v.position;
      contact = contact_index_of v.contact;
    })))

-- ---- a channel: the mode is validated at 0, after 25

unfoldable pub channel_from_c_rule : ℕ → List ℕ → List ℕ → Common → ChannelInfo → Validity
channel_from_c_rule size name description common info =
    unless (leb 90 size) reason.ShortBuffer 0
    then unless (mode_ok info.mode) reason.Mode 0
    then channel_write_rule size name description common (info_from info)

unfoldable pub channel_from_c_written : List ℕ → List ℕ → List ℕ → Common → ChannelInfo → List ℕ
channel_from_c_written out name description common info =
    written
    (channel_from_c_rule (length out) name description common info)
    out
    (channel_bytes name description common (info_from info))

abbrev pub ChannelFromC : List ℕ → List ℕ → List ℕ → Common → ChannelInfo → RefusalAnswer → List ℕ → Type 0
ChannelFromC out name description common info r after =
    (r ≡ refusal_of (channel_from_c_rule (length out) name description common info)) × (after ≡ channel_from_c_written out name description common info)
