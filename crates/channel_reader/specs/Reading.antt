-- A channel's value, read from a valid record (document 01, "The file"): its common fields with one of three kinds of info.
use Rattle.std.specs.Prelude.{Result, ℕ, true, cond, List, get_or, eqb, pos, Ok, Err}
use Rattle.fields.specs.Bytes.{part, num, zeros}
use Rattle.bits.specs.Packed.{nibbles_of, signed_of}
use Rattle.tones.specs.Tone.{tone_of}
use Rattle.tones.specs.declared.Tone.TheVariants.{Disabled}
use Rattle.channel.specs.declared.Traits.{Traits}
use Rattle.channel.specs.declared.Location.{Location}
use Rattle.channel.specs.declared.Common.{Common}
use Rattle.channel.specs.declared.FmInfo.{FmInfo}
use Rattle.channel.specs.declared.DmrInfo.{DmrInfo}
use Rattle.channel.specs.declared.M17Info.{M17Info}
use Rattle.channel.specs.declared.Info.{Info}
use Rattle.channel.specs.declared.Info.TheVariants.{Fm, Dmr, M17}
use Rattle.channel.specs.declared.Channel.{Channel}
use Rattle.channel.specs.Values.{traits_of, dmr_contact_at, m17_contact_at, contact_index_of}
use Rattle.fields.specs.Rule.{Validity}
use Rattle.format.specs.declared.refusals.Refusal.{Refusal}

-- ---- a valid record's value

unfoldable pub location_of : List ℕ → Location
location_of s =
    record {
      latitude = signed_of (get_or s 77 0);
      latitude_e4 = num s 78 2;
      longitude = signed_of (get_or s 80 0);
      longitude_e4 = num s 81 2;
      altitude_plus_500 = num s 83 2;
    }

-- by its traits
abbrev pub common_of_by : Traits → List ℕ → Common
common_of_by traits s =
    record {
      traits = traits;
      power = get_or s 2 0;
      receive_hz = num s 3 4;
      transmit_hz = num s 7 4;
      scan_list = get_or s 11 0;
      group_list = get_or s 12 0;
      location = location_of s;
    }

unfoldable pub common_of : List ℕ → Common
common_of s = common_of_by (traits_of (get_or s 1 0)) s

unfoldable pub fm_of : List ℕ → FmInfo
fm_of s = record { receive = tone_of (get_or s 85 0); transmit = tone_of (get_or s 86 0) }

unfoldable pub dmr_of : List ℕ → DmrInfo
dmr_of s = record { colours = nibbles_of (get_or s 85 0); slot = get_or s 86 0; contact = contact_index_of (num s dmr_contact_at 2) }

unfoldable pub m17_of : List ℕ → M17Info
m17_of s =
    record {
      access = nibbles_of (get_or s 85 0);
      operation = (nibbles_of (get_or s 86 0)).high;
      encryption = (nibbles_of (get_or s 86 0)).low;
      position = eqb (get_or s 87 0) 1;
      contact = contact_index_of (num s m17_contact_at 2);
    }

unfoldable pub info_of : List ℕ → Info
info_of s = cond (eqb (get_or s 0 0) 0) (Fm (fm_of s)) (cond (eqb (get_or s 0 0) 1) (Dmr (dmr_of s)) (M17 (m17_of s)))

-- by its common fields
abbrev pub channel_of_by : Common → List ℕ → Channel
channel_of_by common s = record { name = part s 13 32; description = part s 45 32; common = common; info = info_of s }

unfoldable pub channel_of : List ℕ → Channel
channel_of s = channel_of_by (common_of s) s

-- what stands beside a refusal: receive-only, both tones disabled, everything else zero
unfoldable pub blank_channel : Channel
blank_channel =
    record {
      name = zeros 32;
      description = zeros 32;
      common = record {
        traits = record { bandwidth = 0; receive_only = true };
        power = 0;
        receive_hz = 0;
        transmit_hz = 0;
        scan_list = 0;
        group_list = 0;
        location = record { latitude = pos 0; latitude_e4 = 0; longitude = pos 0; longitude_e4 = 0; altitude_plus_500 = 0 };
      };
      info = Fm (record { receive = Disabled 0; transmit = Disabled 0 });
    }

-- what a reader answers: the record's value where it is valid, else the refusal
unfoldable pub channel_answer : Validity → List ℕ → Result Channel Refusal
channel_answer (Ok u) s = Ok (channel_of s)
channel_answer (Err e) s = Err e
