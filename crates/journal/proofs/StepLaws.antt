-- A call on the two buffers and the same call on the book: what the buffers hold follows the book, call by call.
use Prim.Native.Nat.{ℕ, suc, ◌+◌, ◌-◌, ◌≤◌, max}
use mathlib.Core.Path.{◌≡◌, refl, ap, sym, ◌∙◌}
use mathlib.Core.Bool.{Bool, true, false}
use mathlib.Core.List.{List, [], ◌∷◌, ◌++◌, reverse, reverse-append}
use native.Mathlib.Omega.{arith}
use lib.ListN.{length, take, drop, length-append, length-drop, length-reverse}
use lib.Seq.{take-append_seam}
use lib.Dec.{leb}
use borrow.Author.Tests.{le-leb, leb-true}
use Rattle.fields.specs.Bytes.{zeros}
use Rattle.fields.specs.Rule.{◌then◌, unless, is_valid, Validity, Valid, Refused}
use Rattle.fields.proofs.Laws.{length-zeros, then-valid, unless-valid}
use Rattle.journal.specs.Entry.{Entry, whole, entry_size, history_bytes}
use Rattle.journal.specs.History.{fitting_run, recorded}
use Rattle.journal.specs.Change.{entry_of}
use Rattle.journal.specs.EditSystem.{EditSystem}
use Rattle.journal.specs.Machine.{State, Outcome, holding, file_of, history_of, whole_rule, buffers_rule, refused, done, new_entry, edit_rule}
use Rattle.journal.specs.EditSystem.{Call, edit, undo}
use Rattle.journal.specs.Machine.{edit_outcome, edit_step, entry_fits, top_rule, undo_rule, revert_top, without_top, undo_outcome, undo_step, entry_list, step, after, next}
use Rattle.journal.specs.Book.{Standing, Book, book_file, file_after, kept_entries, trimmed, with_standing, book_edit_rule, with_edit}
use Rattle.journal.specs.Book.{after_edit, any_kept, without_last, book_undo_rule, after_undo, book_lengths, answer_by, book_next, book_answer}
use Rattle.journal.proofs.Laws.{AllValid, entries-return, recorded-kept, recorded-fits, history-size}
use Rattle.journal.proofs.ChangeLaws.{revert-entry_of, entry_of-inside}
use Rattle.journal.proofs.BookLaws.{Fine, AllFine, NewestKept, together-reverse, valid-reverse, file-last, entries-last, fine_more}
use Rattle.journal.proofs.BookLaws.{newest-more, LastKept, last-kept, without-last, fine-less, newest-less, entries_none, fine-last}
use Rattle.journal.proofs.BookLaws.{entries-valid, fine-oldest, newest-oldest, trimmed-keeps, file-trimmed, entries-trimmed, entries-many}
use Rattle.std.specs.Prelude.{Ok, Err}
use Rattle.format.specs.declared.refusals.Reason.TheVariants as reason
use Rattle.journal.specs.Answer.{done_with}
use Rattle.format.specs.declared.refusals.Reason.{Reason}

-- ---- a buffer and its new content

pub take-holding : (d : List ℕ) (len : ℕ) (s : List ℕ) → take (length s) (holding d len s) ≡ s
unfolding holding
take-holding d len s = take-append_seam s (zeros (len - length s) ++ drop (max len (length s)) d)

pub length-holding : (d : List ℕ) (len : ℕ) (s : List ℕ) → len ≤ length d → length s ≤ length d → length (holding d len s) ≡ length d
unfolding holding
length-holding d len s h g = rw (length-append, length-append, length-zeros, length-drop) (omega arith)

-- ---- the two buffers and the book

-- the kept entries as they stand in the history
abbrev pub newest_first : (S : EditSystem) → Book S → List Entry
newest_first S b = reverse (kept_entries S b.opening b.standing)

-- the room holds the book's file and the history the kept entries, newest first
pub record Simulates (S : EditSystem) (m : State) (b : Book S) : Type 0 where
  pub file-is : file_of m ≡ book_file S b
  pub file-length : m.length-in-room ≡ length (book_file S b)
  pub room-size : length m.room ≡ b.room_size
  pub entries-are : take m.length-in-history m.history ≡ history_bytes (newest_first S b)
  pub entries-length : m.length-in-history ≡ length (history_bytes (newest_first S b))
  pub history-size-is : length m.history ≡ b.history_size
  pub entries_fit : length (history_bytes (newest_first S b)) ≤ b.history_size
  pub all-fine : AllFine S b.room_size b.opening b.standing
  pub newest-kept : NewestKept S b.standing

pub file-fine : (S : EditSystem) (m : State) (b : Book S) → Simulates S m b → Fine S b.room_size (book_file S b)
unfolding book_file
file-fine S m b h = fine-last S b.room_size b.opening b.standing h.all-fine

-- the same answer, and the buffers follow the book again
pub record Step (S : EditSystem) (c : Call S) (m : State) (b : Book S) : Type 0 where
  pub same_answer : (step S c m).answer ≡ book_answer S c b
  pub simulates : Simulates S (next S c m) (book_next S c b)

next-refused : (S : EditSystem) (c : Call S) (m : State) (n : Reason) (p : ℕ) → step S c m ≡ refused n p m → next S c m ≡ m
unfolding next after refused
next-refused S c m n p e = rw e

pub refused-step : (S : EditSystem) (c : Call S) (m : State) (b : Book S) (n : Reason) (p : ℕ) → step S c m ≡ refused n p m
    → book_answer S c b ≡ Refused n p → book_next S c b ≡ b → Simulates S m b → Step S c m b
unfolding refused
refused-step S c m b n p e f g h =
    record {
      same_answer = rw (e, f);
      simulates = rw (next-refused S c m n p e, g) h;
    }

-- the standing edits l, with the file s and the entries es
pub record Made (S : EditSystem) (b : Book S) (l : List (Standing S)) (s : List ℕ) (es : List Entry) : Type 0 where
  pub file-made : file_after S b.opening l ≡ s
  pub entries-made : reverse (kept_entries S b.opening l) ≡ es
  pub made-fit : length (history_bytes es) ≤ b.history_size
  pub made-fine : AllFine S b.room_size b.opening l
  pub made_kept : NewestKept S l

-- the buffers after an accepted call
abbrev afterwards : State → List ℕ → List Entry → State
afterwards m s es =
    record {
      room = holding m.room m.length-in-room s;
      length-in-room = length s;
      history = holding m.history m.length-in-history (history_bytes es);
      length-in-history = length (history_bytes es);
    }

next-done : (S : EditSystem) (c : Call S) (m : State) (s : List ℕ) (es : List Entry) → step S c m ≡ done s es m → next S c m ≡ afterwards m s es
unfolding next after done
next-done S c m s es e = rw e

simulates-made : (S : EditSystem) (m : State) (b : Book S) (l : List (Standing S)) (s : List ℕ) (es : List Entry) → Made S b l s es
    → Simulates S m b → Simulates S (afterwards m s es) (with_standing S l b)
unfolding book_file with_standing file_of
simulates-made S m b l s es made h =
    let fine = fine-last S b.room_size b.opening l made.made-fine in
    let now = file-fine S m b h in
    let f = made.file-made in
    let g = made.entries-made in
    let len : length s ≡ length (file_after S b.opening l) = ap length (sym f) in
    record {
      file-is = take-holding m.room m.length-in-room s ∙ sym f;
      file-length = len;
      room-size = length-holding m.room m.length-in-room s (omega arith) (omega arith) ∙ h.room-size;
      entries-are = take-holding m.history m.length-in-history (history_bytes es) ∙ rw g;
      entries-length = rw g;
      history-size-is =
          length-holding m.history m.length-in-history (history_bytes es) (omega arith) (omega arith) ∙ h.history-size-is;
      entries_fit = rw g made.made-fit;
      all-fine = made.made-fine;
      newest-kept = made.made_kept;
    }

-- what the book answers is what the buffers hold
state-made : (S : EditSystem) (b : Book S) (l : List (Standing S)) (s : List ℕ) (es : List Entry) → Made S b l s es
    → book_lengths S (with_standing S l b) ≡ done_with (length s) (length (history_bytes es)) (length es)
unfolding book_lengths with_standing book_file
state-made S b l s es made =
    let k = kept_entries S b.opening l in
    rw (
      ← made.entries-made,
      ← made.file-made,
      together-reverse S k,
      length-reverse k,
    )

pub done-step : (S : EditSystem) (c : Call S) (m : State) (b : Book S) (l : List (Standing S)) (s : List ℕ) (es : List Entry)
    → step S c m ≡ done s es m → book_answer S c b ≡ book_lengths S (book_next S c b) → book_next S c b ≡ with_standing S l b
    → Made S b l s es → Simulates S m b → Step S c m b
unfolding done
done-step S c m b l s es e f g made h =
    record {
      same_answer = ap (λ (o : Outcome). o.answer) e ∙ sym (f ∙ ap (λ (x : Book S). book_lengths S x) g ∙ state-made S b l s es made);
      simulates = rw (next-done S c m s es e, g) (simulates-made S m b l s es made h);
    }

-- ---- a call on buffers that follow a book: 30, the file's own refusal and 31 do not arise

-- accepted files are short enough for the numbers of an entry
abbrev pub Short : EditSystem → Type 0
Short S = (f : List ℕ) → S.accepts f ≡ Valid → length f ≤ 1_048_576

module _ (S : EditSystem) (short : Short S) (m : State) (b : Book S) (h : Simulates S m b) where
  pub history-entries : history_of m ≡ whole (newest_first S b)
  unfolding history_of
  history-entries =
      let k = kept_entries S b.opening b.standing in
      let g : AllValid k = entries-valid S short b.room_size b.opening b.standing h.all-fine in
      rw h.entries-are (entries-return (reverse k) (valid-reverse k g))

  pub stands-valid : buffers_rule S m ≡ Valid
  unfolding buffers_rule whole_rule unless ◌then◌
  stands-valid =
      let fine = file-fine S m b h in
      let in-room : m.length-in-room ≤ length m.room = omega arith in
      let in-history : m.length-in-history ≤ length m.history = omega arith in
      rw (
        le-leb m.length-in-room (length m.room) in-room,
        le-leb m.length-in-history (length m.history) in-history,
        h.file-is,
        fine.accepted,
        history-entries,
      )

  -- ---- an edit

  pub edit-rule : (e : S.Edit) → edit_rule S e m ≡ book_edit_rule S e b
  unfolding edit_rule book_edit_rule new_entry ◌then◌
  edit-rule e = rw (stands-valid, h.file-is, h.room-size, h.history-size-is)

  edit-refused : (e : S.Edit) (n : Reason) (p : ℕ) → book_edit_rule S e b ≡ Refused n p → step S (edit e) m ≡ refused n p m
  unfolding step edit_step edit_outcome
  edit-refused e n p f = rw (edit-rule e, f)

  edit-done : (e : S.Edit) → book_edit_rule S e b ≡ Valid
      → step S (edit e) m
      ≡ done (S.applied e (book_file S b))
      (recorded b.history_size (entry_of (book_file S b) (S.applied e (book_file S b))) (newest_first S b)) m
  unfolding step edit_step edit_outcome new_entry entry_list
  edit-done e f = rw (edit-rule e, f, history-entries, h.file-is, h.history-size-is)

  -- the edit stands last, and what is kept is the longest run that fits
  edit-made : (e : S.Edit) → entry_size (entry_of (book_file S b) (S.applied e (book_file S b))) ≤ b.history_size
      → Fine S b.room_size (S.applied e (book_file S b))
      → Made S b
      (trimmed S (suc (length b.standing)) b.history_size b.opening (b.standing ++ (record { made = e; kept = true } ∷ [])))
      (S.applied e (book_file S b))
      (recorded b.history_size (entry_of (book_file S b) (S.applied e (book_file S b))) (newest_first S b))
  unfolding book_file
  edit-made e fits fine =
      let f = b.opening in
      let l = b.standing in
      let s : Standing S = record { made = e; kept = true } in
      let n = suc (length l) in
      let size = b.history_size in
      let new = entry_of (file_after S f l) (S.applied e (file_after S f l)) in
      let k = kept_entries S f l in
      let many : length (kept_entries S f (l ++ (s ∷ []))) ≤ n =
      omega (arith, entries-many S f (l ++ (s ∷ [])), length-append l (s ∷ []))
      in
      let back : reverse (kept_entries S f (l ++ (s ∷ []))) ≡ new ∷ reverse k =
      ap (λ (es : List Entry). reverse es) (entries-last S f l s refl) ∙ reverse-append k (new ∷ [])
      in
      record {
        file-made = file-trimmed S n size f (l ++ (s ∷ [])) ∙ file-last S f l s;
        entries-made =
            entries-trimmed S n size f (l ++ (s ∷ [])) many
            ∙ ap (λ (es : List Entry). fitting_run size es) back
            ∙ sym (recorded-kept size new (reverse k) fits);
        made-fit = recorded-fits size new (reverse k) fits;
        made-fine =
            trimmed-keeps S (λ x. AllFine S b.room_size f x) (λ x g. fine-oldest S b.room_size f x g) n size f (l ++ (s ∷ []))
            (fine_more S b.room_size f l s h.all-fine fine);
        made_kept =
            trimmed-keeps S (λ x. NewestKept S x) (λ x g. newest-oldest S x g) n size f (l ++ (s ∷ []))
            (newest-more S l s refl h.newest-kept);
      }

  edit-accepted : (e : S.Edit) → book_edit_rule S e b ≡ Valid
      → (S.refuses e b.room_size (book_file S b) ≡ Valid)
      × (entry_size (entry_of (book_file S b) (S.applied e (book_file S b))) ≤ b.history_size)
  unfolding book_edit_rule
  edit-accepted e f =
      let size = entry_size (entry_of (book_file S b) (S.applied e (book_file S b))) in
      let fits = leb size b.history_size in
      let g = then-valid (S.refuses e b.room_size (book_file S b)) (unless fits reason.HistoryTooSmall 0) f in
      (g.0, leb-true size b.history_size (unless-valid fits reason.HistoryTooSmall 0 g.1))

  edit-by : (e : S.Edit) (v : Validity) → book_edit_rule S e b ≡ v
      → (S.refuses e b.room_size (book_file S b) ≡ Valid → Fine S b.room_size (S.applied e (book_file S b)))
      → Step S (edit e) m b
  unfolding book_answer answer_by book_next after_edit with_edit
  edit-by e (Err e') f fine =
      refused-step S (edit e) m b e'.reason e'.place (edit-refused e e'.reason e'.place f) (rw f) (rw f) h
  edit-by e (Ok u) f fine =
      let g = edit-accepted e f in
      done-step S (edit e) m b
      (trimmed S (suc (length b.standing)) b.history_size b.opening (b.standing ++ (record { made = e; kept = true } ∷ [])))
      (S.applied e (book_file S b))
      (recorded b.history_size (entry_of (book_file S b) (S.applied e (book_file S b))) (newest_first S b))
      (edit-done e f) (rw f) (rw f) (edit-made e g.1 (fine g.0)) h

  -- an edit whose result is fine wherever the edit itself does not refuse
  pub edit-step : (e : S.Edit)
      → (S.refuses e b.room_size (book_file S b) ≡ Valid → Fine S b.room_size (S.applied e (book_file S b)))
      → Step S (edit e) m b
  edit-step e fine = edit-by e (book_edit_rule S e b) refl fine

  -- ---- an undo

  undo-refused : any_kept S b.standing ≡ false → step S undo m ≡ refused reason.NoUndo 0 m
  unfolding step undo_step undo_rule top_rule undo_outcome entry_list ◌then◌
  undo-refused f =
      rw (stands-valid, history-entries, entries_none S b.opening b.standing f)

  -- the last standing edit's entry is the newest kept one
  module _ (r : LastKept S b.standing) where
    abbrev file-before : List ℕ
    file-before = file_after S b.opening r.front

    abbrev last_entry : Entry
    last_entry = entry_of file-before (book_file S b)

    abbrev entries-before : List Entry
    entries-before = reverse (kept_entries S b.opening r.front)

    newest-is : newest_first S b ≡ last_entry ∷ entries-before
    unfolding book_file
    newest-is =
        let f = b.opening in
        let k = kept_entries S f r.front in
        let new : file_after S f b.standing ≡ S.applied r.last.made file-before =
        ap (λ (l : List (Standing S)). file_after S f l) r.is ∙ file-last S f r.front r.last
        in
        rw (
          new,
          r.is,
          entries-last S f r.front r.last r.kept-is,
        )
        (reverse-append k (entry_of file-before (S.applied r.last.made file-before) ∷ []))

    before-fine : AllFine S b.room_size b.opening r.front
    before-fine = fine-less S b.room_size b.opening r.front r.last (rw r.is at h.all-fine)

    last_fits : entry_fits S last_entry m ≡ true
    unfolding entry_fits is_valid
    last_fits =
        let fine = fine-last S b.room_size b.opening r.front before-fine in
        let inside : last_entry.place + last_entry.put ≤ m.length-in-room = omega (arith, entry_of-inside file-before (book_file S b)) in
        let fits : length file-before ≤ length m.room = omega arith in
        rw (
          le-leb (last_entry.place + last_entry.put) m.length-in-room inside,
          h.file-is,
          revert-entry_of file-before (book_file S b),
          le-leb (length file-before) (length m.room) fits,
          fine.accepted,
        )

    undo-done : step S undo m ≡ done file-before entries-before m
    unfolding step undo_step undo_rule top_rule undo_outcome revert_top without_top entry_list ◌then◌ unless
    undo-done =
        rw (
          stands-valid,
          history-entries,
          newest-is,
          last_fits,
          h.file-is,
          revert-entry_of file-before (book_file S b),
        )

    undo-made : Made S b r.front file-before entries-before
    undo-made =
        let fits : length (history_bytes (last_entry ∷ entries-before)) ≤ b.history_size = rw newest-is at h.entries_fit in
        record {
          file-made = refl;
          entries-made = refl;
          made-fit = omega (arith, history-size last_entry entries-before);
          made-fine = before-fine;
          made_kept = newest-less S r.front r.last (rw r.is at h.newest-kept);
        }

    undo-accepted : any_kept S b.standing ≡ true → Step S undo m b
    unfolding book_answer answer_by book_next after_undo book_undo_rule unless
    undo-accepted f =
        let w : without_last S b.standing ≡ r.front =
        ap (λ (l : List (Standing S)). without_last S l) r.is ∙ without-last S r.front r.last
        in
        done-step S undo m b r.front file-before entries-before undo-done (rw f) (rw (f, w)) undo-made h

  undo-by : (t : Bool) → any_kept S b.standing ≡ t → Step S undo m b
  unfolding book_answer answer_by book_next after_undo book_undo_rule unless
  undo-by true f = undo-accepted (last-kept S b.standing h.newest-kept f) f
  undo-by false f = refused-step S undo m b reason.NoUndo 0 (undo-refused f) (rw f) (rw f) h

  pub undo-step : Step S undo m b
  undo-step = undo-by (any_kept S b.standing) refl
