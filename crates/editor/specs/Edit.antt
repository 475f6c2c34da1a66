-- The steps of an edit. No promise to a caller rests on these: `edit` is told by `edit_step` alone.
use Rattle.std.specs.Prelude.{ℕ, ◌≤◌, ◌≡◌, List, length, take, Ok, Err}
use Rattle.fields.specs.Rule.{◌then◌, Validity, Valid}
use Rattle.m17.specs.declared.Edition.{Edition}
use Rattle.journal.specs.Entry.{alone_rule}
use Rattle.journal.specs.Change.{entry_of}
use Rattle.journal.specs.Span.{span_of, span_size, recorded_in}
use Rattle.journal.specs.declared.recording.Span.{Span}
use Rattle.journal.specs.Machine.{State, Outcome, file_of, history_of, buffers_rule, refused, done}
use Rattle.model.specs.declared.Kind.{Kind}
use Rattle.edits.specs.Result.{result}
use Rattle.edits.specs.Editing.{refuses_known, editing}
use Rattle.plan.specs.declared.Plan.{Plan}
use Rattle.plan.specs.Plan.{planned}
use Rattle.plan.specs.Fits.{Fits}
use Rattle.preconditions.specs.Calls.{state_of}

-- buffers that meet the preconditions by some edition, a plan for the room's content whose file fits the room, and the place and lengths of that change, whose entry fits
-- the history
abbrev pub Committable : List ℕ → ℕ → List ℕ → ℕ → Plan → Span → List ℕ → Type 0
Committable room len history used plan s bytes =
    (((e : Edition) × (buffers_rule (editing e) (state_of room len history used) ≡ Valid)) × (Fits plan bytes (take len room)))
    × (((length (planned plan bytes (take len room)) ≤ length room) × (length (planned plan bytes (take len room)) ≤ 1_048_576))
    × ((s ≡ span_of (entry_of (take len room) (planned plan bytes (take len room)))) × (span_size s ≤ length history)))

-- the room holds s, and the history the entry of that change first
unfoldable pub committed : List ℕ → State → Outcome
committed s m = done s (recorded_in (length m.history) (entry_of (file_of m) s) (history_of m)) m

-- what refuses an edit of a known kind, where both buffers meet the preconditions
unfoldable pub known_rule : Edition → Kind → ℕ → ℕ → List ℕ → State → Validity
known_rule e k i j r m =
    refuses_known e k i j r (length m.room) (file_of m)
    then alone_rule (entry_of (file_of m) (result k i j r (file_of m))) (length m.history)

unfoldable pub known_outcome : Validity → Kind → ℕ → ℕ → List ℕ → State → Outcome
known_outcome (Ok u) k i j r m = committed (result k i j r (file_of m)) m
known_outcome (Err e) k i j r m = refused e.reason e.place m

unfoldable pub known_step : Edition → Kind → ℕ → ℕ → List ℕ → State → Outcome
known_step e k i j r m = known_outcome (known_rule e k i j r m) k i j r m
