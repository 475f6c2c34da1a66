-- Demand 3 as one statement (document 01, "The plain book"), for any edits; proofs/Promise.antt proves it.
use Rattle.std.specs.Prelude.{◌≡◌, List, [], ◌∷◌, ◌++◌, ℕ, length}
use Rattle.fields.specs.Bytes.{AllBytes}
use Rattle.journal.specs.EditSystem.{EditSystem, Call, edit, undo}
use Rattle.journal.specs.Machine.{opened, file_of, answers, final}
use Rattle.journal.specs.Book.{book, book_file, book_answers, book_final}
use Rattle.fields.specs.Rule.{Valid}

-- every edit of a list of calls is one of those that P names
abbrev pub EveryEdit : (S : EditSystem) → (S.Edit → Type 0) → List (Call S) → Type 0
EveryEdit S P [] = Unit
EveryEdit S P (edit e ∷ l) = P e × EveryEdit S P l
EveryEdit S P (undo ∷ l) = EveryEdit S P l

-- The opening file f, spare bytes of the room behind it, and the history's buffer, its length 0: over every list of calls, refused ones included, each
-- answer is the book's, and after the list the room holds the book's file.
abbrev pub EveryListFrom : (S : EditSystem) → (S.Edit → Type 0) → List ℕ → List ℕ → List ℕ → Type 0
EveryListFrom S P f spare history =
    (calls : List (Call S)) → EveryEdit S P calls
    → (answers S calls (opened f spare history) ≡ book_answers S calls (book S f (length (f ++ spare)) (length history)))
    × (file_of (final S calls (opened f spare history)) ≡ book_file S (book_final S calls (book S f (length (f ++ spare)) (length history))))

-- Over every accepted opening file and every content of the spare bytes of the room and of the history's buffer, so every size of both.
abbrev pub EveryList : (S : EditSystem) → (S.Edit → Type 0) → Type 0
EveryList S P = (f spare history : List ℕ) → S.accepts f ≡ Valid → AllBytes f → EveryListFrom S P f spare history
