-- The kinds of edits (document 01, "The twelve edits"), with the length of each one's record.
use Rattle.std.specs.Prelude.{ℕ, cond, eqb, Some, None, Option}
use Rattle.model.specs.declared.Kind.{Kind}
use Rattle.model.specs.declared.Kind.TheVariants.{InsertContact, RemoveContact, ReplaceContact, InsertChannel, RemoveChannel, ReplaceChannel, InsertBank, RemoveBank, RenameBank, InsertEntry, RemoveEntry, SetHeader}

-- an edit's kind by the paper's number
unfoldable pub kind_of : ℕ → Option Kind
kind_of n =
    cond (eqb n 1) (Some InsertContact)
    (cond (eqb n 2) (Some RemoveContact)
    (cond (eqb n 3) (Some ReplaceContact)
    (cond (eqb n 4) (Some InsertChannel)
    (cond (eqb n 5) (Some RemoveChannel)
    (cond (eqb n 6) (Some ReplaceChannel)
    (cond (eqb n 7) (Some InsertBank)
    (cond (eqb n 8) (Some RemoveBank)
    (cond (eqb n 9) (Some RenameBank)
    (cond (eqb n 10) (Some InsertEntry)
    (cond (eqb n 11) (Some RemoveEntry)
    (cond (eqb n 12) (Some SetHeader)
    None)))))))))))

abbrev pub record_length : Kind → ℕ
record_length InsertContact = 39
record_length RemoveContact = 0
record_length ReplaceContact = 39
record_length InsertChannel = 90
record_length RemoveChannel = 0
record_length ReplaceChannel = 90
record_length InsertBank = 32
record_length RemoveBank = 0
record_length RenameBank = 32
record_length InsertEntry = 2
record_length RemoveEntry = 0
record_length SetHeader = 72
