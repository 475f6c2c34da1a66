-- The answer of a call on two lent buffers as numbers.
use Rattle.std.specs.Prelude.{◌≡◌, ℕ, List}
use Rattle.m17.specs.declared.Edition.{Edition}
use Rattle.journal.specs.Machine.{State, Outcome, edit_step, undo_step}
use Rattle.edits.specs.Editing.{editing}
use Rattle.preconditions.specs.Calls.{edit_request}
use Rattle.capi_numbers.specs.Numbers.{edit_answer}
use Rattle.capi_numbers.specs.declared.EditAnswer.{EditAnswer}

-- an answer to C and both buffers afterwards are those of an outcome of a call on these buffers
pub record Called (o : Outcome) (m : State) (r : EditAnswer) (room history : List ℕ) : Type 0 where
  pub answered : r ≡ edit_answer o.answer m.length-in-room m.length-in-history
  pub room-is : room ≡ o.room
  pub history-is : history ≡ o.history

-- those of an edit: its kind, its two places, its record and the buffers lent
abbrev pub Edited : Edition → ℕ → ℕ → ℕ → List ℕ → State → EditAnswer → List ℕ → List ℕ → Type 0
Edited e kind first second bytes m r room history = Called (edit_step (editing e) (edit_request kind first second bytes) m) m r room history

-- those of an undo
abbrev pub Undone : Edition → State → EditAnswer → List ℕ → List ℕ → Type 0
Undone e m r room history = Called (undo_step (editing e) m) m r room history
