-- Document 01, "Examples": the rows marked P, in its order, and last the row of a history that is too small, as one statement over the
-- definitions, addresses by the older edition. Then the numbers of document 02, [10]. Each side computes, so `refl` proves it. An edit's row is a whole step: the
-- answer and both buffers afterwards.
use Prim.Native.Nat.{ℕ}
use mathlib.Core.Path.{◌≡◌, refl}
use mathlib.Core.List.{List, [], ◌∷◌, ◌++◌}
use Rattle.std.proofs.Common.{Some}
use lib.ListN.{replicate}
use Rattle.fields.specs.Bytes.{zeros}
use Rattle.fields.specs.Rule.{field_of, unless, ◌then◌, each}
use Rattle.fields.specs.Bytes.{little, little_bytes, big_from}
use Rattle.contact.specs.Contact.{mode_ok, m17_rule, contact_rule}
use Rattle.channel.specs.Rule.{fm_rule}
use Rattle.text.specs.Text.{text_ok, text_of, all_zero, plain_text}
use Rattle.layout.specs.Header.{header_rule, identity_rule}
use Rattle.layout.specs.Banks.{offsets_rule, banks_rule, banks_from, bank_at, bank_head, next_bank, entry_count}
use Rattle.file_rule.specs.File.{file_rule, contacts_rule, channels_rule}
use Rattle.layout.specs.Places.{contact_count, channel_count, bank_count, contact_place, channel_place, offset_place, banks_place}
use Rattle.affixes.specs.Common.{common_prefix, common_suffix}
use Rattle.std.specs.Prelude.{None}
use Rattle.varint.specs.Number.{number_bytes, groups, number_at, groups_at, at_most, with_group}
use Rattle.journal.specs.Entry.{whole, entry_bytes, entry_size, history_bytes, entries_of, entries_up_to, front_of, with_place, with_put, with_old, before, rest_of}
use Rattle.journal.specs.Change.{entry_of, suffix_length}
use Rattle.journal.specs.Machine.{State, edit_step, edit_outcome, edit_rule, buffers_rule, file_of, history_of, entry_list, whole_rule, done, holding, refused, new_entry}
use Rattle.journal.specs.History.{recorded, fitting_run}
use Rattle.model.specs.Codeplug.{codeplug_of, codeplug_bytes, joined, bank_bytes, pairs, offsets_from, count_bytes, blocks, banks_at}
use Rattle.model.specs.Kinds.{kind_of}
use Rattle.model.specs.Edits.{edited, insert_at, with_banks, with_preamble}
use Rattle.edits.specs.Result.{result}
use Rattle.edits.specs.Editing.{EditRequest, editing, refuses, refuses_kind, refuses_known, applied, applied_kind}
use Rattle.m17.specs.declared.Edition.TheVariants.{Older, Newer}
use Rattle.m17.specs.Edition.{edition_of}
use Rattle.m17.specs.Address.{address_ok, encoding, decoding, decoded_by, decoded_into, hash_signs, foreign_place, number_of, address_of, digit_of, first_foreign, foreign, ends_in_space, within, is_callsign, text_for, text_up_to, char_of}
use Rattle.m17.specs.declared.Decoded.TheVariants as decoded
use Rattle.tones.specs.Tone.{tone_of, tone_ok, tone_index, frequency_of, tone_table}
use Rattle.tones.specs.declared.Tone.{Tone}
use Rattle.tones.specs.declared.Tone.TheVariants.{Enabled, Disabled}
use Rattle.std.specs.Prelude.{Ok}
use Rattle.format.specs.Refusals.{reason_of}
use Rattle.journal.specs.Answer.{done_with}
use Rattle.fields.specs.Rule.{Valid, Refused}

-- ---- tones

-- a tone byte and what it means: the tone, and its frequency in tenths of a hertz
abbrev Means : ℕ → Tone → ℕ → Type 0
Means b t f = (tone_of b ≡ t) × (frequency_of (tone_index t) ≡ Some f)

-- an FM channel's bytes, zero but for its receive tone
abbrev with_tone : ℕ → List ℕ
with_tone b = zeros 85 ++ (b ∷ zeros 4)

-- ---- 80 00 as a history's first number

-- 80 00 is no number, so a history that starts with it is refused; with the shortest form of 0 in its place it is one entry
abbrev Shortest : Type 0
Shortest =
    (number_at (0x80 ∷ 0x00 ∷ []) ≡ None)
    × (whole_rule (entries_of (0x80 ∷ 0x00 ∷ 0x00 ∷ 0x00 ∷ [])) ≡ Refused (reason_of 31) 0)
    × (entries_of (0x00 ∷ 0x00 ∷ 0x00 ∷ []) ≡ whole (record { place = 0; put = 0; old = [] } ∷ []))

-- ---- edits

-- the first ten bytes of a file: magic and version
abbrev begin : List ℕ
begin = 0x52 ∷ 0x54 ∷ 0x58 ∷ 0x43 ∷ 0 ∷ 0 ∷ 0 ∷ 0 ∷ 1 ∷ 0 ∷ []

-- the 88-byte file with no records, empty texts and a timestamp below 256
abbrev empty : ℕ → List ℕ
empty t = begin ++ (zeros 64 ++ (t ∷ zeros 13))

-- the same with timestamp 0 and one bank, nameless and without entries: 1 as the count of banks, then its offset, its name and its count
abbrev one_bank : List ℕ
one_bank = begin ++ (zeros 76 ++ (1 ∷ zeros 39))

-- set author, description and timestamp 1; insert a nameless bank
abbrev dated : EditRequest
dated = record { kind = 12; first = 0; second = 0; bytes = zeros 64 ++ (1 ∷ zeros 7) }

abbrev banked : EditRequest
banked = record { kind = 7; first = 0; second = 0; bytes = zeros 32 }

-- the file with timestamp 0 in a room with spare bytes, and an empty history in its buffer
abbrev at : List ℕ → List ℕ → State
at spare h = record { room = empty 0 ++ spare; length-in-room = 88; history = h; length-in-history = 0 }

-- timestamp 0 to 1: the new file, the entry, and bytes past both lengths as they were
abbrev Dated : Type 0
Dated =
    edit_step (editing Older) dated (at (7 ∷ 8 ∷ 9 ∷ []) (1 ∷ 2 ∷ 3 ∷ 4 ∷ 5 ∷ 6 ∷ []))
    ≡ record { answer = done_with 88 4 1; room = empty 1 ++ (7 ∷ 8 ∷ 9 ∷ []); history = 0x4A ∷ 0x01 ∷ 0x01 ∷ 0x00 ∷ 5 ∷ 6 ∷ [] }

-- the nameless bank takes 38 of 40 spare bytes
abbrev Banked : Type 0
Banked =
    edit_step (editing Older) banked (at (replicate 38 255 ++ (8 ∷ 9 ∷ [])) (1 ∷ 2 ∷ 3 ∷ 4 ∷ 5 ∷ []))
    ≡ record { answer = done_with 126 3 1; room = one_bank ++ (8 ∷ 9 ∷ []); history = 0x56 ∷ 0x26 ∷ 0x00 ∷ 4 ∷ 5 ∷ [] }

-- a history buffer of 3 bytes is too small for the timestamp edit
abbrev NoRoomForEntry : Type 0
NoRoomForEntry =
    edit_step (editing Older) dated (at (7 ∷ []) (1 ∷ 2 ∷ 3 ∷ []))
    ≡ record { answer = Refused (reason_of 37) 0; room = empty 0 ++ (7 ∷ []); history = 1 ∷ 2 ∷ 3 ∷ [] }

-- ---- the table

-- "A", "AB1CD", space A, A space, nine dots, 40^9, the empty text; tones 0x1F, 0x8E, 0x31 and 0x32; numbers 127 and 128; 80 00; the
-- timestamp edit; the nameless bank; and, not marked P, the timestamp edit with a history of 3 bytes
abbrev pub Rows : Type 0
Rows =
    (encoding Older (65 ∷ []) ≡ Ok 1)
    × (encoding Older (65 ∷ 66 ∷ 49 ∷ 67 ∷ 68 ∷ []) ≡ Ok 10_476_881)
    × (encoding Older (32 ∷ 65 ∷ []) ≡ Ok 40)
    × (encoding Older (65 ∷ 32 ∷ []) ≡ Refused (reason_of 22) 0)
    × (encoding Older (replicate 9 46) ≡ Ok 262_143_999_999_999)
    × (decoding Older 9 262_144_000_000_000 ≡ Refused (reason_of 23) 0)
    × (encoding Older [] ≡ Refused (reason_of 20) 0)
    × Means 0x1F (Disabled 31) 1738
    × Means 0x8E (Enabled 14) 1072
    × (fm_rule (with_tone 0x31) 0 ≡ Valid)
    × (fm_rule (with_tone 0x32) 0 ≡ Refused (reason_of 7) 85)
    × (number_bytes 127 ≡ 0x7F ∷ [])
    × (number_bytes 128 ≡ 0x80 ∷ 0x01 ∷ [])
    × Shortest
    × Dated
    × Banked
    × NoRoomForEntry

pub paper-rows : Rows
unfolding reason_of encoding decoding hash_signs foreign_place number_of address_of digit_of first_foreign foreign ends_in_space within is_callsign text_for text_up_to char_of tone_of tone_ok tone_index frequency_of tone_table fm_rule edit_step edit_outcome edit_rule buffers_rule file_of history_of entry_list whole_rule done holding refused new_entry recorded fitting_run entry_size history_bytes refuses refuses_kind refuses_known file_rule header_rule identity_rule contacts_rule channels_rule offsets_rule banks_rule banks_from bank_at bank_head next_bank entry_count each text_ok text_of all_zero plain_text zeros unless field_of ◌then◌ number_bytes groups entries_of entries_up_to front_of with_place with_put with_old number_at groups_at at_most with_group before rest_of entry_bytes entry_of suffix_length common_prefix common_suffix applied applied_kind kind_of result codeplug_of codeplug_bytes edited insert_at with_banks with_preamble joined bank_bytes pairs offsets_from count_bytes blocks banks_at contact_count channel_count bank_count contact_place channel_place offset_place banks_place little little_bytes
paper-rows = (refl, refl, refl, refl, refl, refl, refl, (refl, refl), (refl, refl), refl, refl, refl, refl, (refl, refl, refl), refl, refl, refl)

-- ---- hash addresses

-- a number and the text that it writes over nine bytes
abbrev Writes : ℕ → List ℕ → Type 0
Writes n nine = decoded_into Newer (replicate 9 255) n ≡ nine

-- an M17 contact without a name whose address is 40^9, EE 6B 28 00 00 00
abbrev hash_contact : List ℕ
hash_contact = zeros 32 ++ (2 ∷ 0xEE ∷ 0x6B ∷ 0x28 ∷ 0 ∷ 0 ∷ 0 ∷ [])

-- by the newer edition: the hash sign alone, with eight dots and with nine, before a space, before space A, before A space, twice, behind A; 40^9 + 40^8; broadcast; texts written;
-- the contact. By the older: the hash sign, 40^9 + 40^8 - 1, the contact. Edition 2 is the older
abbrev pub HashRows : Type 0
HashRows =
    (encoding Newer (35 ∷ []) ≡ Ok 262_144_000_000_000)
    × (encoding Newer (35 ∷ replicate 8 46) ≡ Ok 268_697_599_999_999)
    × (encoding Newer (35 ∷ replicate 9 46) ≡ Refused (reason_of 20) 0)
    × (encoding Newer (35 ∷ 32 ∷ []) ≡ Refused (reason_of 22) 0)
    × (encoding Newer (35 ∷ 32 ∷ 65 ∷ []) ≡ Ok 262_144_000_000_040)
    × (encoding Newer (35 ∷ 65 ∷ 32 ∷ []) ≡ Refused (reason_of 22) 0)
    × (encoding Newer (35 ∷ 35 ∷ []) ≡ Refused (reason_of 21) 1)
    × (encoding Newer (65 ∷ 35 ∷ []) ≡ Refused (reason_of 21) 1)
    × (decoding Newer 9 268_697_600_000_000 ≡ Refused (reason_of 23) 0)
    × (decoding Newer 9 0xFFFFFFFFFFFF ≡ (Ok decoded.Broadcast))
    × Writes 262_143_999_999_999 (replicate 9 46)
    × Writes 262_144_000_000_000 (35 ∷ zeros 8)
    × Writes 262_144_000_000_040 (35 ∷ 32 ∷ 65 ∷ zeros 6)
    × Writes 268_697_599_999_999 (35 ∷ replicate 8 46)
    × (contact_rule Newer hash_contact 0 ≡ Valid)
    × (encoding Older (35 ∷ []) ≡ Refused (reason_of 21) 0)
    × (decoding Older 9 268_697_599_999_999 ≡ Refused (reason_of 23) 0)
    × (contact_rule Older hash_contact 0 ≡ Refused (reason_of 8) 33)
    × (edition_of 2 ≡ Older)

pub hash-rows : HashRows
unfolding reason_of encoding decoding decoded_into decoded_by hash_signs foreign_place number_of address_of digit_of first_foreign foreign ends_in_space within is_callsign text_for text_up_to char_of zeros address_ok contact_rule m17_rule mode_ok text_ok text_of all_zero plain_text unless field_of ◌then◌ big_from edition_of
hash-rows = (refl, refl, refl, refl, refl, refl, refl, refl, refl, refl, refl, refl, refl, refl, refl, refl, refl, refl, refl)
