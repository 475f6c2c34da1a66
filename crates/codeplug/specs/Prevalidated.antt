-- Reading records of a file that was validated before, without validating it again: an addition to document 01 (docs/DECISIONS.md). It answers
-- for any bytes: no such place by the header's count, then the record's own first bad field; of a bank, that of its name and entry count. What the rest of
-- a bad file would give is not looked for. A bank that is refused hands out no entries. Of a file that the same edition accepts the answers are those of
-- Read.antt (proofs/Prevalidated.antt).
use Rattle.std.specs.Prelude.{Result, ℕ, List, ltb}
use Rattle.format.specs.declared.refusals.Refusal.{Refusal}
use Rattle.fields.specs.Bytes.{part}
use Rattle.fields.specs.Rule.{◌then◌, unless, Validity}
use Rattle.m17.specs.declared.Edition.{Edition}
use Rattle.contact.specs.Contact.{contact_answer}
use Rattle.contact.specs.declared.Contact.{Contact}
use Rattle.channel_reader.specs.Reading.{channel_answer}
use Rattle.channel.specs.declared.Channel.{Channel}
use Rattle.layout.specs.Places.{contact_count, channel_count, bank_count, contact_place, channel_place, offset_place}
use Rattle.layout.specs.Banks.{offset_at, offset_target, bank_head}
use Rattle.file_rule.specs.File.{contact_at, channel_at}
use Rattle.codeplug.specs.Read.{bank_answer, entries_answer}
use Rattle.codeplug.specs.declared.Bank.{Bank}
use Rattle.format.specs.declared.refusals.Reason.TheVariants as reason

abbrev pub contact_prevalidated_rule : Edition → List ℕ → ℕ → Validity
contact_prevalidated_rule e f n = unless (ltb n (contact_count f)) reason.NoPlace 0 then contact_at e f (contact_place n)

unfoldable pub contact_prevalidated : Edition → List ℕ → ℕ → Result Contact Refusal
contact_prevalidated e f n = contact_answer (contact_prevalidated_rule e f n) (part f (contact_place n) 39)

abbrev pub channel_prevalidated_rule : List ℕ → ℕ → Validity
channel_prevalidated_rule f n = unless (ltb n (channel_count f)) reason.NoPlace 0 then channel_at f (channel_place f n)

unfoldable pub channel_prevalidated : List ℕ → ℕ → Result Channel Refusal
channel_prevalidated f n = channel_answer (channel_prevalidated_rule f n) (part f (channel_place f n) 90)

-- where the offset table says that bank n starts
unfoldable pub table_place : List ℕ → ℕ → ℕ
table_place f n = offset_target f (offset_place f n)

unfoldable pub bank_prevalidated_rule : List ℕ → ℕ → Validity
bank_prevalidated_rule f n =
    unless (ltb n (bank_count f)) reason.NoPlace 0
    then offset_at f (offset_place f n)
    then bank_head f (table_place f n)

unfoldable pub bank_prevalidated : List ℕ → ℕ → Result Bank Refusal
bank_prevalidated f n = bank_answer (bank_prevalidated_rule f n) (part f (table_place f n) 34)

-- fewer bytes than the entry count says where the file ends before
unfoldable pub entries_prevalidated : List ℕ → ℕ → List ℕ
entries_prevalidated f n = entries_answer (bank_prevalidated_rule f n) f (table_place f n)
