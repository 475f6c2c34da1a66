-- Reading a file's parts (document 01, "The refusals, by number"): the file's refusal, then that there is no such place.
use Rattle.std.specs.Prelude.{ℕ, ◌+◌, ◌*◌, List, [], ltb, Ok, Err, Result}
use Rattle.fields.specs.Bytes.{part, num, zeros}
use Rattle.fields.specs.Rule.{◌then◌, unless, Validity}
use Rattle.m17.specs.declared.Edition.{Edition}
use Rattle.contact.specs.Contact.{contact_answer}
use Rattle.contact.specs.declared.Contact.{Contact}
use Rattle.channel_reader.specs.Reading.{channel_answer}
use Rattle.channel.specs.declared.Channel.{Channel}
use Rattle.layout.specs.Places.{contact_count, channel_count, bank_count, contact_place, channel_place, counts_of}
use Rattle.layout.specs.Banks.{bank_place, entry_count}
use Rattle.file_rule.specs.File.{file_rule}
use Rattle.codeplug.specs.declared.Header.{Header}
use Rattle.codeplug.specs.declared.Bank.{Bank}
use Rattle.entries.specs.Entry.{entry_step}
use Rattle.entries.specs.declared.EntryStep.{EntryStep}
use Rattle.format.specs.declared.refusals.Reason.TheVariants as reason
use Rattle.format.specs.declared.refusals.Refusal.{Refusal}

-- ---- the header

unfoldable pub header_of : List ℕ → Header
header_of f = record { author = part f 10 32; description = part f 42 32; timestamp = num f 74 8; counts = counts_of f }

-- what stands beside a refusal
unfoldable pub blank_header : Header
blank_header =
    record { author = zeros 32; description = zeros 32; timestamp = 0; counts = record { contacts = 0; channels = 0; banks = 0 } }

unfoldable pub header_answer : Validity → List ℕ → Result Header Refusal
header_answer (Ok u) f = Ok (header_of f)
header_answer (Err e) f = Err e

unfoldable pub header_read : Edition → List ℕ → Result Header Refusal
header_read e f = header_answer (file_rule e f) f

-- ---- record n of a file

-- the record's bytes beside its validity: none beside a refusal
unfoldable pub bytes_answer : Validity → List ℕ → List ℕ
bytes_answer (Ok u) s = s
bytes_answer (Err e) s = []

-- the file's refusal, then one where there is no place n below the count
unfoldable pub place_rule : Edition → List ℕ → ℕ → ℕ → Validity
place_rule e f n count = file_rule e f then unless (ltb n count) reason.NoPlace 0

unfoldable pub contact_read : Edition → List ℕ → ℕ → Result Contact Refusal
contact_read e f n = contact_answer (place_rule e f n (contact_count f)) (part f (contact_place n) 39)

unfoldable pub channel_read : Edition → List ℕ → ℕ → Result Channel Refusal
channel_read e f n = channel_answer (place_rule e f n (channel_count f)) (part f (channel_place f n) 90)

-- ---- bank n: its name and its entry count

unfoldable pub bank_of : List ℕ → Bank
bank_of s = record { name = part s 0 32; entries = num s 32 2 }

unfoldable pub blank_bank : Bank
blank_bank = record { name = zeros 32; entries = 0 }

unfoldable pub bank_answer : Validity → List ℕ → Result Bank Refusal
bank_answer (Ok u) s = Ok (bank_of s)
bank_answer (Err e) s = Err e

unfoldable pub bank_read : Edition → List ℕ → ℕ → Result Bank Refusal
bank_read e f n = bank_answer (place_rule e f n (bank_count f)) (part f (bank_place f n) 34)

-- ---- bank entries, one at a time

-- the bytes of a valid bank's entries, none beside a refusal
unfoldable pub entries_answer : Validity → List ℕ → ℕ → List ℕ
entries_answer (Ok u) f p = part f (p + 34) (entry_count f p * 2)
entries_answer (Err e) f p = []

unfoldable pub entries_read : Edition → List ℕ → ℕ → List ℕ
entries_read e f n = entries_answer (place_rule e f n (bank_count f)) f (bank_place f n)

-- entry i of bank n: the file's refusal, then that there is no such place
unfoldable pub entry_answer : Validity → List ℕ → ℕ → Result EntryStep Refusal
entry_answer (Ok u) s i = entry_step s i
entry_answer (Err e) s i = Err e

unfoldable pub entry_read : Edition → List ℕ → ℕ → ℕ → Result EntryStep Refusal
entry_read e f n i = entry_answer (place_rule e f n (bank_count f)) (entries_read e f n) i
