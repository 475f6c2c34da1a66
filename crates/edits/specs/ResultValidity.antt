-- What reading an edit's result gives, and its length, told without building it. No promise to a caller rests on these: that they are
-- `file_rule` and the length of the result is proved (proofs/ResultLaws.antt; edit_result, proofs/LengthLaws.antt).
use Rattle.std.specs.Prelude.{ℕ, ◌+◌, ◌*◌, ◌-◌, ◌||◌, not, List, length, get_or, leb, ltb, eqb}
use Rattle.fields.specs.Bytes.{part, little}
use Rattle.text.specs.Text.{text_ok}
use Rattle.fields.specs.Rule.{◌then◌, unless, each, Validity, Valid}
use Rattle.m17.specs.declared.Edition.{Edition}
use Rattle.layout.specs.Places.{channel_count, contact_place, channel_place}
use Rattle.layout.specs.Banks.{entry_count, bank_place}
use Rattle.contact.specs.Contact.{contact_rule}
use Rattle.channel.specs.Values.{contact_index_place}
use Rattle.channel.specs.Rule.{channel_rule, named_contact}
use Rattle.file_rule.specs.File.{index_ok}
use Rattle.model.specs.EditRules.{is_index}
use Rattle.model.specs.declared.Kind.{Kind}
use Rattle.model.specs.declared.Kind.TheVariants.{InsertContact, RemoveContact, ReplaceContact, InsertChannel, RemoveChannel, ReplaceChannel, InsertBank, RemoveBank, RenameBank, InsertEntry, RemoveEntry, SetHeader}
use Rattle.format.specs.declared.refusals.Reason.TheVariants as reason

-- the file may grow by so many bytes
unfoldable pub may_grow : ℕ → List ℕ → Validity
may_grow n f = unless (leb (length f + n) 1_048_576) reason.TooLong 0

-- where the contact index of a channel at p stands
unfoldable pub index_place : List ℕ → ℕ → ℕ
index_place s p = p + contact_index_place (get_or s 0 0)

-- a channel at p that names contact i is of this mode
unfoldable pub keeps_mode : List ℕ → ℕ → ℕ → ℕ → Validity
keeps_mode f i mode p =
    unless (not (is_index i (named_contact (part f p 90))) || eqb (get_or (part f p 90) 0 0) mode) reason.ContactIndex (index_place (part f p 90) p)

abbrev pub result_rule : Edition → Kind → ℕ → ℕ → List ℕ → List ℕ → Validity
result_rule e InsertContact i j r f = may_grow 39 f then contact_rule e r (contact_place i)
result_rule e RemoveContact i j r f = Valid
result_rule e ReplaceContact i j r f =
    contact_rule e r (contact_place i)
    then each (keeps_mode f i (get_or r 32 0)) (channel_count f) 90 (channel_place f 0)
result_rule e InsertChannel i j r f = may_grow 90 f then channel_rule r (channel_place f i) (index_ok f r)
result_rule e RemoveChannel i j r f = Valid
result_rule e ReplaceChannel i j r f = channel_rule r (channel_place f i) (index_ok f r)
result_rule e InsertBank i j r f = may_grow 38 f then unless (text_ok r) reason.Text (bank_place f i + 4)
result_rule e RemoveBank i j r f = Valid
result_rule e RenameBank i j r f = unless (text_ok r) reason.Text (bank_place f i)
result_rule e InsertEntry i j r f =
    may_grow 2 f
    then unless (ltb (little r) (channel_count f)) reason.BankEntry (bank_place f i + 34 + j * 2)
result_rule e RemoveEntry i j r f = Valid
result_rule e SetHeader i j r f = unless (text_ok (part r 0 32)) reason.Text 10 then unless (text_ok (part r 32 32)) reason.Text 42

-- the length of an edit's result (edit_result, proofs/LengthLaws.antt); a bank goes with its offset
abbrev pub result_length : Kind → ℕ → List ℕ → ℕ
result_length InsertContact i f = length f + 39
result_length RemoveContact i f = length f - 39
result_length ReplaceContact i f = length f
result_length InsertChannel i f = length f + 90
result_length RemoveChannel i f = length f - 90
result_length ReplaceChannel i f = length f
result_length InsertBank i f = length f + 38
result_length RemoveBank i f = length f - (38 + entry_count f (bank_place f i) * 2)
result_length RenameBank i f = length f
result_length InsertEntry i f = length f + 2
result_length RemoveEntry i f = length f - 2
result_length SetHeader i f = length f
