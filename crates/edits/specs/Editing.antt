-- The edits of a codeplug and their refusals (document 01, "The refusals, by number"): an edit is refused by 32, 33, 34, 35, then by what reading
-- its result gives, then by 36. (30, the file's own refusal and 31 come before, 37 after: journal, specs/Machine.antt.)
use Rattle.std.specs.Prelude.{ℕ, not, List, length, leb, eqb, Some, None, Option}
use Rattle.fields.specs.Rule.{◌then◌, unless, Validity, Refused}
use Rattle.m17.specs.declared.Edition.{Edition}
use Rattle.file_rule.specs.File.{file_rule}
use Rattle.journal.specs.EditSystem.{EditSystem}
use Rattle.model.specs.Codeplug.{codeplug_of}
use Rattle.model.specs.declared.Kind.{Kind}
use Rattle.model.specs.Kinds.{kind_of, record_length}
use Rattle.model.specs.EditRules.{place_ok, count_ok, in_use}
use Rattle.edits.specs.Result.{result}
use Rattle.format.specs.declared.refusals.Reason.TheVariants as reason

-- an edit as it is asked for: its kind's number, two places and a record
pub record EditRequest : Type 0 where
  pub kind : ℕ
  pub first : ℕ
  pub second : ℕ
  pub bytes : List ℕ

-- what refuses an edit of a known kind
unfoldable pub refuses_known : Edition → Kind → ℕ → ℕ → List ℕ → ℕ → List ℕ → Validity
refuses_known e k i j r room f =
    unless (eqb (length r) (record_length k)) reason.NoEdit 0
    then unless (place_ok k i j (codeplug_of f)) reason.NoPlace 0
    then unless (count_ok k i (codeplug_of f)) reason.Full 0
    then unless (not (in_use k i (codeplug_of f))) reason.InUse 0
    then file_rule e (result k i j r f)
    then unless (leb (length (result k i j r f)) room) reason.NoRoom 0

unfoldable pub refuses_kind : Edition → Option Kind → EditRequest → ℕ → List ℕ → Validity
refuses_kind e None a room f = Refused reason.NoEdit 0
refuses_kind e (Some k) a room f = refuses_known e k a.first a.second a.bytes room f

unfoldable pub refuses : Edition → EditRequest → ℕ → List ℕ → Validity
refuses e a room f = refuses_kind e (kind_of a.kind) a room f

-- the file that the edit's rule describes (where there is no such edit, 32 was given before)
unfoldable pub applied_kind : Option Kind → EditRequest → List ℕ → List ℕ
applied_kind None a f = f
applied_kind (Some k) a f = result k a.first a.second a.bytes f

unfoldable pub applied : EditRequest → List ℕ → List ℕ
applied a f = applied_kind (kind_of a.kind) a f

abbrev pub editing : Edition → EditSystem
editing e = record { Edit = EditRequest; accepts = file_rule e; refuses = refuses e; applied = applied }
