-- What a call of edit or undo does to the two lent buffers (document 01, "The refusals, by number", "The twelve edits", "The history").
use Rattle.std.specs.Prelude.{ℕ, ◌+◌, ◌-◌, max, Bool, ◌&&◌, List, [], ◌∷◌, ◌++◌, length, take, drop, leb, Ok, Err, Result}
use Rattle.fields.specs.Bytes.{zeros}
use Rattle.fields.specs.Rule.{◌then◌, unless, is_valid, Validity, Valid, Refused}
use Rattle.journal.specs.Entry.{Entry, Entries, whole, broken, entries_of, alone_rule, history_bytes}
use Rattle.journal.specs.History.{recorded}
use Rattle.journal.specs.Change.{entry_of, revert}
use Rattle.journal.specs.EditSystem.{EditSystem, Call, edit, undo}
use Rattle.format.specs.declared.refusals.Reason.{Reason}
use Rattle.format.specs.declared.refusals.Reason.TheVariants as reason
use Rattle.format.specs.declared.refusals.Refusal.{Refusal}
use Rattle.journal.specs.Answer.{done_with}
use Rattle.journal.specs.declared.answer.Done.{Done}

-- two buffers, each with the length of its content: the room (document 01's word) holds the codeplug and then spare bytes, the history what
-- undo needs
pub record State : Type 0 where
  pub room : List ℕ
  pub length-in-room : ℕ
  pub history : List ℕ
  pub length-in-history : ℕ

-- an answer, and the two buffers afterwards
pub record Outcome : Type 0 where
  pub answer : Result Done Refusal
  pub room : List ℕ
  pub history : List ℕ

-- a buffer that held `len` bytes of content and now holds s: zeros from the new length up to the old, unchanged past both
unfoldable pub holding : List ℕ → ℕ → List ℕ → List ℕ
holding d len s = s ++ (zeros (len - length s) ++ drop (max len (length s)) d)

-- before the first call: the room holds a file and spare bytes, the history has length 0
unfoldable pub opened : List ℕ → List ℕ → List ℕ → State
opened f spare h = record { room = f ++ spare; length-in-room = length f; history = h; length-in-history = 0 }

-- ---- what both calls validate first: 30, the codeplug's own refusal, 31

unfoldable pub file_of : State → List ℕ
file_of m = take m.length-in-room m.room

unfoldable pub history_of : State → Entries
history_of m = entries_of (take m.length-in-history m.history)

-- the entries of a history; none where it is not whole entries
unfoldable pub entry_list : Entries → List Entry
entry_list (whole es) = es
entry_list broken = []

unfoldable pub whole_rule : Entries → Validity
whole_rule (whole es) = Valid
whole_rule broken = Refused reason.BadHistory 0

unfoldable pub buffers_rule : EditSystem → State → Validity
buffers_rule S m =
    unless (leb m.length-in-room (length m.room) && leb m.length-in-history (length m.history)) reason.BadLength 0
    then S.accepts (file_of m)
    then whole_rule (history_of m)

-- ---- outcomes

unfoldable pub refused : Reason → ℕ → State → Outcome
refused why place m = record { answer = Refused why place; room = m.room; history = m.history }

-- the file s and the entries es
unfoldable pub done : List ℕ → List Entry → State → Outcome
done s es m =
    record {
      answer = done_with (length s) (length (history_bytes es)) (length es);
      room = holding m.room m.length-in-room s;
      history = holding m.history m.length-in-history (history_bytes es);
    }

-- ---- an edit: 30, the codeplug's own, 31, the edit's own, 37

unfoldable pub new_entry : (S : EditSystem) → S.Edit → List ℕ → Entry
new_entry S e f = entry_of f (S.applied e f)

unfoldable pub edit_rule : (S : EditSystem) → S.Edit → State → Validity
edit_rule S e m =
    buffers_rule S m
    then S.refuses e (length m.room) (file_of m)
    then alone_rule (new_entry S e (file_of m)) (length m.history)

unfoldable pub edit_outcome : (S : EditSystem) → S.Edit → State → Validity → List Entry → Outcome
edit_outcome S e m (Err e') es = refused e'.reason e'.place m
edit_outcome S e m (Ok u) es =
    done (S.applied e (file_of m)) (recorded (length m.history) (new_entry S e (file_of m)) es) m

unfoldable pub edit_step : (S : EditSystem) → S.Edit → State → Outcome
edit_step S e m = edit_outcome S e m (edit_rule S e m) (entry_list (history_of m))

-- ---- an undo: 30, the codeplug's own, 31, 38 where the history is empty, 39 where its top entry does not fit

-- p + k stays within the codeplug, the result within the room, and reading it does not refuse
unfoldable pub entry_fits : EditSystem → Entry → State → Bool
entry_fits S e m =
    leb (e.place + e.put) m.length-in-room
    && (leb (length (revert e (file_of m))) (length m.room) && is_valid (S.accepts (revert e (file_of m))))

unfoldable pub top_rule : EditSystem → List Entry → State → Validity
top_rule S [] m = Refused reason.NoUndo 0
top_rule S (e ∷ es) m = unless (entry_fits S e m) reason.HistoryEntry 0

unfoldable pub undo_rule : EditSystem → State → Validity
undo_rule S m = buffers_rule S m then top_rule S (entry_list (history_of m)) m

-- the file without the top entry's edit, and the entries behind it (of no entries 38 was given before)
unfoldable pub revert_top : List Entry → List ℕ → List ℕ
revert_top [] f = f
revert_top (e ∷ es) f = revert e f

unfoldable pub without_top : List Entry → List Entry
without_top [] = []
without_top (e ∷ es) = es

unfoldable pub undo_outcome : EditSystem → State → Validity → List Entry → Outcome
undo_outcome S m (Err e) es = refused e.reason e.place m
undo_outcome S m (Ok u) es = done (revert_top es (file_of m)) (without_top es) m

unfoldable pub undo_step : EditSystem → State → Outcome
undo_step S m = undo_outcome S m (undo_rule S m) (entry_list (history_of m))

-- ---- a list of calls on the same two buffers

unfoldable pub step : (S : EditSystem) → Call S → State → Outcome
step S (edit e) m = edit_step S e m
step S undo m = undo_step S m

-- the lengths that a caller passes to the next call: those answered, or the same after a refusal
unfoldable pub after : Result Done Refusal → Outcome → State → State
after (Ok x) o m = record { room = o.room; length-in-room = x.len; history = o.history; length-in-history = x.used }
after (Err e) o m = record { room = o.room; length-in-room = m.length-in-room; history = o.history; length-in-history = m.length-in-history }

unfoldable pub next : (S : EditSystem) → Call S → State → State
next S c m = after (step S c m).answer (step S c m) m

-- the answers to a list of calls, and the state after it
unfoldable pub answers : (S : EditSystem) → List (Call S) → State → List (Result Done Refusal)
answers S [] m = []
answers S (c ∷ l) m = (step S c m).answer ∷ answers S l (next S c m)

unfoldable pub final : (S : EditSystem) → List (Call S) → State → State
final S [] m = m
final S (c ∷ l) m = final S l (next S c m)
