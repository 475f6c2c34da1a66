-- Demand 3 for codeplugs: the promise over every list of calls (journal, proofs/Promise.antt) at the editor's own edits. It speaks of every
-- edit whose record is bytes, which is every one that code can pass.
use Prim.Native.Nat.{ℕ, ◌≤◌, ◌<◌}
use mathlib.Core.Path.{◌≡◌}
use mathlib.Core.Bool.{false}
use mathlib.Core.Logic.{◌⊎◌}
use mathlib.Core.List.{List, ◌++◌}
use native.Mathlib.Omega.{arith}
use lib.ListN.{length}
use borrow.Author.Tests.{leb-true, eqb-true, not-true}
use Rattle.fields.proofs.Laws.{AllBytes, then-valid, unless-valid}
use Rattle.m17.specs.declared.Edition.{Edition}
use Rattle.file_rule.specs.File.{file_rule}
use Rattle.file_rule.proofs.Laws.{file-valid}
use Rattle.journal.specs.EditSystem.{Call, edit, undo}
use Rattle.journal.specs.Machine.{State, file_of, history_of, buffers_rule, step, next}
use Rattle.journal.specs.Book.{Book, file_after, any_kept, without_last}
use Rattle.journal.specs.Promise.{EveryEdit}
use Rattle.journal.proofs.Promise.{EditSystemLaws, promise, state_after, book_after, entries-after, stands_after, edit-refusals, undo-refusals, undo-refused, undo-takes-back}
use Rattle.journal.proofs.StepLaws.{newest_first}
use Rattle.journal.specs.Entry.{entry_size, whole}
use Rattle.journal.specs.Change.{entry_of}
use Rattle.model.specs.Kinds.{kind_of}
use Rattle.model.specs.Codeplug.{codeplug_of, codeplug_bytes}
use Rattle.model.proofs.FileOf.{file-of-codeplug}
use Rattle.edits.proofs.AcceptedCodeplug.{has-layout}
use Rattle.edits.specs.Editing.{EditRequest, refuses_known, refuses_kind, refuses, applied_kind, applied, editing}
use Rattle.edits.specs.Demand.{OfBytes, Demand3}
use Rattle.edits.proofs.ResultLaws.{result-bytes}
use Rattle.std.specs.Prelude.{Some, None, Option}
use Rattle.format.specs.declared.refusals.Reason.TheVariants as reason
use Rattle.model.specs.declared.Kind.{Kind}
use Rattle.journal.specs.Answer.{done_with}
use Rattle.fields.specs.Rule.{Valid, Refused}
use Rattle.format.specs.declared.refusals.Reason.{Reason}

-- an edit that is not refused gives an accepted file of bytes that fits the room
kind-valid : (ed : Edition) (t : Option Kind) (a : EditRequest) (room : ℕ) (f : List ℕ) → AllBytes f → file_rule ed f ≡ Valid → AllBytes a.bytes
    → refuses_kind ed t a room f ≡ Valid
    → (file_rule ed (applied_kind t a f) ≡ Valid) × ((length (applied_kind t a f) ≤ room) × AllBytes (applied_kind t a f))
unfolding refuses_known refuses_kind applied_kind
kind-valid ed None a room f bytes valid p h = let z : ◌≡◌ {A = ℕ} 0 1 = cc in absurd (omega arith)
kind-valid ed (Some k) a room f bytes valid p h =
    let wide = then-valid _ _ h in
    let place = then-valid _ _ wide.1 in
    let count = then-valid _ _ place.1 in
    let free = then-valid _ _ count.1 in
    let read = then-valid _ _ free.1 in (
      read.0,
      (
        leb-true _ _ (unless-valid _ _ _ read.1),
        result-bytes ed k a.first a.second a.bytes f bytes p valid (eqb-true _ _ (unless-valid _ _ _ wide.0)) (unless-valid _ _ _ place.0)
            (unless-valid _ _ _ count.0) (not-true _ (unless-valid _ _ _ free.0)),
      ),
    )

pub editing-laws : (ed : Edition) → EditSystemLaws (editing ed) OfBytes
unfolding refuses applied
editing-laws ed =
    record {
      result-valid = λ a room f bytes valid p h. kind-valid ed (kind_of a.kind) a room f bytes valid p h;
      short = λ f h. (file-valid ed f h).short;
    }

-- ---- the promise

-- Over every accepted opening file, every size and content of the spare bytes of both buffers, and every list of edits and undos, refused
-- ones included: each answer is the book's, and the room holds the book's file. It says that the two calls keep faith with the book; that
-- an edit yields the file its rule describes is what the calls' contracts and `applied` say, which both sides share.
pub editor-promise : Demand3
editor-promise ed f spare history valid bytes calls proper = promise (editing ed) OfBytes (editing-laws ed) f spare history valid bytes calls proper

-- ---- what follows, after any list of calls

module _ (ed : Edition) (f spare history : List ℕ) (valid : file_rule ed f ≡ Valid) (bytes : AllBytes f) (calls : List (Call (editing ed))) (proper : EveryEdit (editing ed) OfBytes calls) where
  abbrev now : State
  now = state_after (editing ed) f spare history calls

  abbrev booked : Book (editing ed)
  booked = book_after (editing ed) f spare history calls

  -- 30, the file's own refusal and 31 do not arise
  pub editor-preconditions : buffers_rule (editing ed) now ≡ Valid
  editor-preconditions = stands_after (editing ed) OfBytes (editing-laws ed) f spare history valid bytes calls proper

  -- the history's bytes are exactly the kept entries, newest first
  pub editor-entries : history_of now ≡ whole (newest_first (editing ed) booked)
  editor-entries = entries-after (editing ed) OfBytes (editing-laws ed) f spare history valid bytes calls proper

  -- an edit is refused by its own refusals of the file, and then by 37 at 0 where its entry alone exceeds the history buffer: no other
  pub editor-edit-refusals : (a : EditRequest) → OfBytes a → (n : Reason) (p : ℕ) → (step (editing ed) (edit a) now).answer ≡ Refused n p
      → (refuses ed a (length (f ++ spare)) (file_of now) ≡ Refused n p)
      ⊎ (((n ≡ reason.HistoryTooSmall) × (p ≡ 0)) × (length history < entry_size (entry_of (file_of now) (applied a (file_of now)))))
  editor-edit-refusals = edit-refusals (editing ed) OfBytes (editing-laws ed) f spare history valid bytes calls proper

  -- an undo is refused exactly where no standing edit's entry is kept, by 38 at 0; 39 does not arise
  pub editor-undo-refusals : (n : Reason) (p : ℕ) → (step (editing ed) undo now).answer ≡ Refused n p
      → ((n ≡ reason.NoUndo) × (p ≡ 0)) × (any_kept (editing ed) booked.standing ≡ false)
  editor-undo-refusals = undo-refusals (editing ed) OfBytes (editing-laws ed) f spare history valid bytes calls proper

  pub editor-undo-refused : any_kept (editing ed) booked.standing ≡ false → (step (editing ed) undo now).answer ≡ Refused reason.NoUndo 0
  editor-undo-refused = undo-refused (editing ed) OfBytes (editing-laws ed) f spare history valid bytes calls proper

  -- an undo that is accepted takes back the last standing edit
  pub editor-undo-takes-back : (len used n : ℕ) → (step (editing ed) undo now).answer ≡ done_with len used n
      → file_of (next (editing ed) undo now) ≡ file_after (editing ed) f (without_last (editing ed) booked.standing)
  editor-undo-takes-back = undo-takes-back (editing ed) OfBytes (editing-laws ed) f spare history valid bytes calls proper

-- what an edit does not change stays byte for byte: an accepted file is the file of its own records
pub records-are-the-file : (ed : Edition) (f : List ℕ) → file_rule ed f ≡ Valid → AllBytes f → codeplug_bytes (codeplug_of f) ≡ f
records-are-the-file ed f valid bytes = file-of-codeplug f (has-layout ed f valid bytes)
