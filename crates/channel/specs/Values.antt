-- Single values of a channel and their rules (document 01, "The file").
use Rattle.std.specs.Prelude.{ℕ, Bool, false, ◌&&◌, ◌||◌, not, cond, leb, eqb, ℤ, pos, negsuc, Some, None, Option}
use Rattle.bits.specs.Packed.{number_flag_of}
use Rattle.bits.specs.declared.NumberFlag.{NumberFlag}
use Rattle.channel.specs.declared.Traits.{Traits}
use Rattle.channel.specs.declared.Info.{Info}
use Rattle.channel.specs.declared.Info.TheVariants.{Fm, Dmr, M17}

-- ---- values and their rules: `..Ok` speaks of what a file holds, `..Valid` and `..Given` of a value that a writer is given

-- 0 FM, 1 DMR, 2 M17
unfoldable pub mode_ok : ℕ → Bool
mode_ok m = leb m 2

-- traits: bandwidth in bits 0 and 1 (0 to 2), receive-only in bit 2, the rest zero (document 02, [5])
unfoldable pub traits_of : ℕ → Traits
traits_of b = record { bandwidth = (number_flag_of b).number; receive_only = (number_flag_of b).flag }

unfoldable pub traits_number_flag : Traits → NumberFlag
traits_number_flag t = record { number = t.bandwidth; flag = t.receive_only }

-- scan list 0 to 250, group list 0 to 128
abbrev pub scan_list_ok : ℕ → Bool
scan_list_ok x = leb x 250

abbrev pub group_list_ok : ℕ → Bool
group_list_ok x = leb x 128

-- latitude floor: a signed byte, -90 to 90 (negsuc n is -(n + 1))
unfoldable pub latitude_ok : ℤ → Bool
latitude_ok (pos n) = leb n 90
latitude_ok (negsuc n) = leb n 89

unfoldable pub is_ninety : ℤ → Bool
is_ninety (pos n) = eqb n 90
is_ninety (negsuc n) = false

-- ten-thousandths: 0 to 9,999; of a latitude 0 where the floor is 90
unfoldable pub fraction_ok : ℕ → Bool
fraction_ok x = leb x 9999

unfoldable pub latitude_fraction_ok : ℤ → ℕ → Bool
latitude_fraction_ok floor x = fraction_ok x && (not (is_ninety floor) || eqb x 0)

-- timeslot 1 or 2
unfoldable pub slot_ok : ℕ → Bool
slot_ok x = leb 1 x && leb x 2

-- operation 1 to 3 with encryption 0 to 2
unfoldable pub operation_ok : ℕ → Bool
operation_ok x = leb 1 x && leb x 3

unfoldable pub encryption_ok : ℕ → Bool
encryption_ok x = leb x 2

-- where the contact index of two bytes stands, of a DMR and of an M17 channel; an FM channel has none
abbrev pub dmr_contact_at : ℕ
dmr_contact_at = 87

abbrev pub m17_contact_at : ℕ
m17_contact_at = 88

-- the same by the channel's mode, 1 or 2
abbrev pub contact_index_place : ℕ → ℕ
contact_index_place m = cond (eqb m 1) dmr_contact_at m17_contact_at

-- contact index: 65,535 means none
unfoldable pub contact_index_of : ℕ → Option ℕ
contact_index_of x = cond (eqb x 65535) None (Some x)

unfoldable pub contact_index_number : Option ℕ → ℕ
contact_index_number None = 65535
contact_index_number (Some x) = x

-- a channel's mode by the paper's number
unfoldable pub mode_number : Info → ℕ
mode_number (Fm i) = 0
mode_number (Dmr i) = 1
mode_number (M17 i) = 2
