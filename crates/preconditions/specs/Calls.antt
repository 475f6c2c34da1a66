-- What is lent to a call, and what it leaves, as the machine of the history has them.
use Rattle.std.specs.Prelude.{ℕ, List, Result}
use Rattle.journal.specs.Machine.{State, Outcome}
use Rattle.edits.specs.Editing.{EditRequest}
use Rattle.format.specs.declared.refusals.Refusal.{Refusal}
use Rattle.journal.specs.declared.answer.Done.{Done}

-- two buffers, each with the length of its content
abbrev pub state_of : List ℕ → ℕ → List ℕ → ℕ → State
state_of room len history used = record { room = room; length-in-room = len; history = history; length-in-history = used }

-- an answer, and the two buffers afterwards
abbrev pub outcome_of : Result Done Refusal → List ℕ → List ℕ → Outcome
outcome_of answer room history = record { answer = answer; room = room; history = history }

-- an edit as it is asked for
abbrev pub edit_request : ℕ → ℕ → ℕ → List ℕ → EditRequest
edit_request kind first second bytes = record { kind = kind; first = first; second = second; bytes = bytes }
