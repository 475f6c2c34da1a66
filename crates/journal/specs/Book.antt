-- The plain book (document 01, "The plain book"): the opening file and the standing edits in order, each with a note whether its entry is
-- kept. Book and standing are document 01's words: the book is the model that every answer is compared with. It is fed no answer, no length of a content and no history byte.
use Rattle.std.specs.Prelude.{ℕ, zero, suc, ◌+◌, Bool, true, false, ◌||◌, cond, List, [], ◌∷◌, ◌++◌, length, leb, Ok, Err, Result}
use Rattle.fields.specs.Rule.{◌then◌, unless, Validity}
use Rattle.journal.specs.Entry.{Entry, entry_size, alone_rule}
use Rattle.journal.specs.Change.{entry_of}
use Rattle.journal.specs.EditSystem.{EditSystem, Call, edit, undo}
use Rattle.format.specs.declared.refusals.Reason.TheVariants as reason
use Rattle.format.specs.declared.refusals.Refusal.{Refusal}
use Rattle.journal.specs.Answer.{done_with}
use Rattle.journal.specs.declared.answer.Done.{Done}

-- an edit that stands, and whether its entry is kept
pub record Standing (S : EditSystem) : Type 0 where
  pub made : S.Edit
  pub kept : Bool

-- the opening file, the sizes of both buffers, and the standing edits, oldest first
pub record Book (S : EditSystem) : Type 0 where
  pub opening : List ℕ
  pub room_size : ℕ
  pub history_size : ℕ
  pub standing : List (Standing S)

module _ (S : EditSystem) where
  -- the book at the start: an opening file and the sizes of both buffers; no edit stands
  unfoldable pub book : List ℕ → ℕ → ℕ → Book S
  book f room history = record { opening = f; room_size = room; history_size = history; standing = [] }

  -- its file: the opening file with the standing edits applied in order
  unfoldable pub file_after : List ℕ → List (Standing S) → List ℕ
  file_after f [] = f
  file_after f (s ∷ l) = file_after (S.applied s.made f) l

  unfoldable pub book_file : Book S → List ℕ
  book_file b = file_after b.opening b.standing

  -- the kept entries, each formed from the files before and after, oldest first
  unfoldable pub kept_entries : List ℕ → List (Standing S) → List Entry
  kept_entries f [] = []
  kept_entries f (s ∷ l) =
      cond s.kept (entry_of f (S.applied s.made f) ∷ kept_entries (S.applied s.made f) l) (kept_entries (S.applied s.made f) l)

  unfoldable pub together : List Entry → ℕ
  together [] = 0
  together (e ∷ l) = entry_size e + together l

  -- the oldest kept entry is dropped
  unfoldable pub drop_oldest : List (Standing S) → List (Standing S)
  drop_oldest [] = []
  drop_oldest (s ∷ l) = cond s.kept (record { made = s.made; kept = false } ∷ l) (s ∷ drop_oldest l)

  -- while the kept entries together exceed the history buffer, the oldest of them is dropped: at most as often as edits stand
  unfoldable pub trimmed : ℕ → ℕ → List ℕ → List (Standing S) → List (Standing S)
  trimmed zero size f l = l
  trimmed (suc n) size f l = cond (leb (together (kept_entries f l)) size) l (trimmed n size f (drop_oldest l))

  unfoldable pub with_standing : List (Standing S) → Book S → Book S
  with_standing l b = record { opening = b.opening; room_size = b.room_size; history_size = b.history_size; standing = l }

  -- ---- an edit

  unfoldable pub book_edit_rule : S.Edit → Book S → Validity
  book_edit_rule e b =
      S.refuses e b.room_size (book_file b)
      then alone_rule (entry_of (book_file b) (S.applied e (book_file b))) b.history_size

  -- it stands last, its entry kept
  unfoldable pub with_edit : S.Edit → Book S → Book S
  with_edit e b =
      with_standing (trimmed (suc (length b.standing)) b.history_size b.opening (b.standing ++ (record { made = e; kept = true } ∷ []))) b

  unfoldable pub after_edit : Validity → S.Edit → Book S → Book S
  after_edit (Ok u) e b = with_edit e b
  after_edit (Err e') e b = b

  -- ---- an undo

  unfoldable pub any_kept : List (Standing S) → Bool
  any_kept [] = false
  any_kept (s ∷ l) = s.kept || any_kept l

  -- the last standing edit leaves the book
  unfoldable pub without_last : List (Standing S) → List (Standing S)
  without_last [] = []
  without_last (s ∷ []) = []
  without_last (s ∷ (t ∷ l)) = s ∷ without_last (t ∷ l)

  unfoldable pub book_undo_rule : Book S → Validity
  book_undo_rule b = unless (any_kept b.standing) reason.NoUndo 0

  unfoldable pub after_undo : Validity → Book S → Book S
  after_undo (Ok u) b = with_standing (without_last b.standing) b
  after_undo (Err e) b = b

  -- ---- a call: what it answers, and the book afterwards

  -- the length of the book's file, the kept entries' length together and their number
  unfoldable pub book_lengths : Book S → Result Done Refusal
  book_lengths b =
      done_with (length (book_file b)) (together (kept_entries b.opening b.standing)) (length (kept_entries b.opening b.standing))

  unfoldable pub answer_by : Validity → Book S → Result Done Refusal
  answer_by (Ok u) b = book_lengths b
  answer_by (Err e) b = Err e

  unfoldable pub book_next : Call S → Book S → Book S
  book_next (edit e) b = after_edit (book_edit_rule e b) e b
  book_next undo b = after_undo (book_undo_rule b) b

  unfoldable pub book_answer : Call S → Book S → Result Done Refusal
  book_answer (edit e) b = answer_by (book_edit_rule e b) (book_next (edit e) b)
  book_answer undo b = answer_by (book_undo_rule b) (book_next undo b)

  -- ---- a list of calls

  unfoldable pub book_answers : List (Call S) → Book S → List (Result Done Refusal)
  book_answers [] b = []
  book_answers (c ∷ l) b = book_answer c b ∷ book_answers l (book_next c b)

  unfoldable pub book_final : List (Call S) → Book S → Book S
  book_final [] b = b
  book_final (c ∷ l) b = book_final l (book_next c b)
