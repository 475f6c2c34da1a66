-- How many bytes an edit of each kind puts in, with a bank's offset, and that the file may grow by them. No promise to a caller rests on
-- these.
use Rattle.std.specs.Prelude.{ℕ, ◌+◌, ◌||◌, List, length, leb, eqb}
use Rattle.fields.specs.Rule.{unless, Validity}
use Rattle.model.specs.declared.Kind.{Kind}
use Rattle.model.specs.declared.Kind.TheVariants.{InsertContact, RemoveContact, ReplaceContact, InsertChannel, RemoveChannel, ReplaceChannel, InsertBank, RemoveBank, RenameBank, InsertEntry, RemoveEntry, SetHeader}
use Rattle.format.specs.declared.refusals.Reason.TheVariants as reason

abbrev pub growth : Kind → ℕ
growth InsertContact = 39
growth RemoveContact = 0
growth ReplaceContact = 0
growth InsertChannel = 90
growth RemoveChannel = 0
growth ReplaceChannel = 0
growth InsertBank = 38
growth RemoveBank = 0
growth RenameBank = 0
growth InsertEntry = 2
growth RemoveEntry = 0
growth SetHeader = 0

abbrev pub growth_rule : Kind → List ℕ → Validity
growth_rule k f = unless (eqb (growth k) 0 || leb (length f + growth k) 1_048_576) reason.TooLong 0
