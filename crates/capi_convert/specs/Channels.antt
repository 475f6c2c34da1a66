-- A channel as numbers.
use Rattle.std.specs.Prelude.{ℕ, false, List, ◌++◌, Result, Ok, Err}
use Rattle.format.specs.declared.refusals.Refusal.{Refusal}
use Rattle.tones.specs.Tone.{tone_index, tone_enabled}
use Rattle.channel.specs.Values.{contact_index_number}
use Rattle.channel_reader.specs.Reading.{blank_channel}
use Rattle.channel.specs.declared.Info.{Info}
use Rattle.channel.specs.declared.Info.TheVariants.{Fm, Dmr, M17}
use Rattle.channel.specs.declared.Channel.{Channel}
use Rattle.capi_numbers.specs.Numbers.{refused, refused_by}
use Rattle.capi_convert.specs.Texts.{TextsOut}
use Rattle.capi_numbers.specs.declared.ChannelInfo.{ChannelInfo}
use Rattle.capi_convert.specs.declared.channels.ChannelAnswer.{ChannelAnswer}

-- the other modes' numbers are 0, and the contact 65,535, which is nobody
unfoldable pub channel_info : Info → ChannelInfo
channel_info (Fm i) =
    record {
      contact = 65535;
      mode = 0;
      receive_tone = tone_index i.receive;
      receive_tone_on = tone_enabled i.receive;
      transmit_tone = tone_index i.transmit;
      transmit_tone_on = tone_enabled i.transmit;
      colours = record { high = 0; low = 0 };
      slot = 0;
      access = record { high = 0; low = 0 };
      operation = 0;
      encryption = 0;
      position = false;
    }
channel_info (Dmr i) =
    record {
      contact = contact_index_number i.contact;
      mode = 1;
      receive_tone = 0;
      receive_tone_on = false;
      transmit_tone = 0;
      transmit_tone_on = false;
      colours = i.colours;
      slot = i.slot;
      access = record { high = 0; low = 0 };
      operation = 0;
      encryption = 0;
      position = false;
    }
channel_info (M17 i) =
    record {
      contact = contact_index_number i.contact;
      mode = 2;
      receive_tone = 0;
      receive_tone_on = false;
      transmit_tone = 0;
      transmit_tone_on = false;
      colours = record { high = 0; low = 0 };
      slot = 0;
      access = i.access;
      operation = i.operation;
      encryption = i.encryption;
      position = i.position;
    }

-- ---- what was read of a channel, and name and description into a buffer

unfoldable pub channel_to_c : Result Channel Refusal → ChannelAnswer
channel_to_c (Ok x) = record { refusal = refused 0 0; common = x.common; info = channel_info x.info }
channel_to_c (Err e) = record { refusal = refused_by e; common = blank_channel.common; info = channel_info blank_channel.info }

abbrev pub ChannelOut : Result Channel Refusal → List ℕ → ChannelAnswer → List ℕ → Type 0
ChannelOut = TextsOut (λ x. x.name ++ x.description) channel_to_c 64
