-- The promise over every list of calls (document 01, "The plain book"): each answer, and the file after the list, is the plain book's.
use Prim.Native.Nat.{ℕ, ◌≤◌, ◌<◌}
use mathlib.Core.Path.{◌≡◌, refl, ap, sym, ◌∙◌}
use mathlib.Core.Bool.{Bool, true, false}
use mathlib.Core.Logic.{◌⊎◌, inl, inr, ⊎_elim}
use mathlib.Core.List.{List, [], ◌∷◌, ◌++◌}
use native.Mathlib.Omega.{arith}
use lib.ListN.{length, length-append}
use lib.Seq.{take-append_seam}
use lib.Dec.{leb}
use borrow.Author.Tests.{leb-false}
use Rattle.fields.specs.Rule.{◌then◌, unless, Validity, Valid, Refused}
use Rattle.fields.specs.Bytes.{AllBytes}
use Rattle.journal.specs.Entry.{entry_size, history_bytes, whole}
use Rattle.journal.specs.Change.{entry_of}
use Rattle.journal.specs.EditSystem.{EditSystem, Call, edit, undo}
use Rattle.journal.specs.Promise.{EveryEdit, EveryList}
use Rattle.journal.specs.Machine.{State, opened, file_of, history_of, buffers_rule, step, next, answers, final}
use Rattle.journal.specs.Book.{Book, book, book_file, file_after, kept_entries, book_edit_rule, with_edit, after_edit, any_kept, without_last}
use Rattle.journal.specs.Book.{with_standing, book_undo_rule, after_undo, book_lengths, answer_by, book_next, book_answer, book_answers, book_final}
use Rattle.journal.proofs.StepLaws.{Simulates, Step, newest_first, file-fine, edit-step, undo-step, history-entries, stands-valid}
use Rattle.std.specs.Prelude.{Ok, Err}
use Rattle.format.specs.declared.refusals.Reason.TheVariants as reason
use Rattle.journal.specs.Answer.{done_with}
use Rattle.format.specs.declared.refusals.Reason.{Reason}
use Rattle.format.specs.declared.refusals.Refusal.{Refusal}

-- ---- what the promise needs of an edit system

-- an edit that is not refused gives an accepted file of bytes that fits the room; an accepted file has at most 1,048,576 bytes. P says
-- which edits the promise speaks of
pub record EditSystemLaws (S : EditSystem) (P : S.Edit → Type 0) : Type 0 where
  pub result-valid : (e : S.Edit) (room : ℕ) (f : List ℕ) → AllBytes f → S.accepts f ≡ Valid → P e
      → S.refuses e room f ≡ Valid
      → (S.accepts (S.applied e f) ≡ Valid) × ((length (S.applied e f) ≤ room) × AllBytes (S.applied e f))
  pub short : (f : List ℕ) → S.accepts f ≡ Valid → length f ≤ 1_048_576

-- ---- call by call

edit-simulates : (S : EditSystem) (P : S.Edit → Type 0) (L : EditSystemLaws S P) (e : S.Edit) (m : State) (b : Book S) → P e → Simulates S m b → Step S (edit e) m b
edit-simulates S P L e m b p h =
    let now = file-fine S m b h in
    edit-step S L.short m b h e
    (λ g.
    let r = L.result-valid e b.room_size (book_file S b) now.bytes now.accepted p g in
    record { accepted = r.0; bytes = r.1.1; fits = r.1.0 })

-- what holds after a list of calls
record Agree (S : EditSystem) (calls : List (Call S)) (m : State) (b : Book S) : Type 0 where
  same-answers : answers S calls m ≡ book_answers S calls b
  simulates-on : Simulates S (final S calls m) (book_final S calls b)

agree-more : (S : EditSystem) (c : Call S) (calls : List (Call S)) (m : State) (b : Book S) → Step S c m b
    → Agree S calls (next S c m) (book_next S c b) → Agree S (c ∷ calls) m b
unfolding answers book_answers final book_final
agree-more S c calls m b s a =
    record {
      same-answers = rw (s.same_answer, a.same-answers);
      simulates-on = a.simulates-on;
    }

agree : (S : EditSystem) (P : S.Edit → Type 0) (L : EditSystemLaws S P) (calls : List (Call S)) → EveryEdit S P calls → (m : State) (b : Book S) → Simulates S m b → Agree S calls m b
unfolding answers book_answers final book_final
agree S P L [] p m b h = record { same-answers = refl; simulates-on = h }
agree S P L (edit e ∷ calls) p m b h =
    let s = edit-simulates S P L e m b p.0 h in
    agree-more S (edit e) calls m b s (agree S P L calls p.1 (next S (edit e) m) (book_next S (edit e) b) s.simulates)
agree S P L (undo ∷ calls) p m b h =
    let s = undo-step S L.short m b h in
    agree-more S undo calls m b s (agree S P L calls p (next S undo m) (book_next S undo b) s.simulates)

-- at the start: the history's content is empty
simulates-opened : (S : EditSystem) (f spare h : List ℕ) → S.accepts f ≡ Valid → AllBytes f
    → Simulates S (opened f spare h) (book S f (length (f ++ spare)) (length h))
unfolding opened book book_file file_after kept_entries file_of history_bytes
simulates-opened S f spare h valid bytes =
    record {
      file-is = take-append_seam f spare;
      file-length = refl;
      room-size = refl;
      entries-are = refl;
      entries-length = refl;
      history-size-is = refl;
      entries_fit = omega arith;
      all-fine = record { accepted = valid; bytes = bytes; fits = omega (arith, length-append f spare) };
      newest-kept = tt;
    }

-- ---- the promise

-- the file f opened in a room with any spare bytes, and any history buffer
pub promise : (S : EditSystem) (P : S.Edit → Type 0) → EditSystemLaws S P → EveryList S P
promise S P L f spare h valid bytes calls p =
    let a = agree S P L calls p (opened f spare h) (book S f (length (f ++ spare)) (length h)) (simulates-opened S f spare h valid bytes) in
    (a.same-answers, a.simulates-on.file-is)

-- ---- what follows, after any list of calls

-- the two buffers and the book after a list of calls
abbrev pub state_after : (S : EditSystem) → List ℕ → List ℕ → List ℕ → List (Call S) → State
state_after S f spare h calls = final S calls (opened f spare h)

abbrev pub book_after : (S : EditSystem) → List ℕ → List ℕ → List ℕ → List (Call S) → Book S
book_after S f spare h calls = book_final S calls (book S f (length (f ++ spare)) (length h))

-- a book keeps its opening file and the sizes
record Keeps (S : EditSystem) (a b : Book S) : Type 0 where
  same-opening : a.opening ≡ b.opening
  same-room : a.room_size ≡ b.room_size
  same-history : a.history_size ≡ b.history_size

edit-keeps : (S : EditSystem) (v : Validity) (e : S.Edit) (b : Book S) → Keeps S (after_edit S v e b) b
unfolding after_edit with_edit with_standing
edit-keeps S (Ok u) e b = record { same-opening = refl; same-room = refl; same-history = refl }
edit-keeps S (Err e') e b = record { same-opening = refl; same-room = refl; same-history = refl }

undo-keeps : (S : EditSystem) (v : Validity) (b : Book S) → Keeps S (after_undo S v b) b
unfolding after_undo with_standing
undo-keeps S (Ok u) b = record { same-opening = refl; same-room = refl; same-history = refl }
undo-keeps S (Err e) b = record { same-opening = refl; same-room = refl; same-history = refl }

keeps-next : (S : EditSystem) (c : Call S) (b : Book S) → Keeps S (book_next S c b) b
unfolding book_next
keeps-next S (edit e) b = edit-keeps S (book_edit_rule S e b) e b
keeps-next S undo b = undo-keeps S (book_undo_rule S b) b

keeps-final : (S : EditSystem) (calls : List (Call S)) (b : Book S) → Keeps S (book_final S calls b) b
unfolding book_final
keeps-final S [] b = record { same-opening = refl; same-room = refl; same-history = refl }
keeps-final S (c ∷ calls) b =
    let k = keeps-final S calls (book_next S c b) in
    let n = keeps-next S c b in
    record {
      same-opening = k.same-opening ∙ n.same-opening;
      same-room = k.same-room ∙ n.same-room;
      same-history = k.same-history ∙ n.same-history;
    }

-- where a book refuses
answer-refused : (S : EditSystem) (v : Validity) (b : Book S) (n : Reason) (p : ℕ) → answer_by S v b ≡ Refused n p → v ≡ Refused n p
unfolding answer_by book_lengths
answer-refused S (Ok u) b n p e = let z : ◌≡◌ {A = ℕ} 0 1 = cc in absurd (omega arith)
answer-refused S (Err e') b n p e = cc

answer-done : (S : EditSystem) (v : Validity) (b : Book S) (len used n : ℕ) → answer_by S v b ≡ done_with len used n → v ≡ Valid
unfolding answer_by
answer-done S (Ok u) b len used n e = refl
answer-done S (Err e') b len used n e = let z : ◌≡◌ {A = ℕ} 0 1 = cc in absurd (omega arith)

unless-refused : (t : Bool) (number : Reason) (n : Reason) (p : ℕ) → unless t number 0 ≡ Refused n p → ((n ≡ number) × (p ≡ 0)) × (t ≡ false)
unfolding unless
unless-refused true number n p e = let z : ◌≡◌ {A = ℕ} 0 1 = cc in absurd (omega arith)
unless-refused false number n p e =
    let g : ◌≡◌ {A = Refusal} (record { reason = n; place = p }) (record { reason = number; place = 0 }) = cc in
    ((ap (λ (x : Refusal). x.reason) g, ap (λ (x : Refusal). x.place) g), refl)

then-refusals : (a : Validity) (t : Bool) (number : Reason) (n : Reason) (p : ℕ) → a then unless t number 0 ≡ Refused n p
    → (a ≡ Refused n p) ⊎ (((n ≡ number) × (p ≡ 0)) × (t ≡ false))
unfolding ◌then◌
then-refusals (Ok u) t number n p e = inr (unless-refused t number n p e)
then-refusals (Err e') t number n p e = inl e

module _ (S : EditSystem) (P : S.Edit → Type 0) (L : EditSystemLaws S P) (f spare h : List ℕ) (valid : S.accepts f ≡ Valid) (bytes : AllBytes f)
    (calls : List (Call S)) (proper : EveryEdit S P calls) where
  -- the room holds the book's file, and the history the kept entries, newest first
  pub simulates-after : Simulates S (state_after S f spare h calls) (book_after S f spare h calls)
  simulates-after =
      (agree S P L calls proper (opened f spare h) (book S f (length (f ++ spare)) (length h)) (simulates-opened S f spare h valid bytes)).simulates-on

  -- the history's bytes are exactly the book's kept entries: the number of entries answered is the number that they hold
  pub entries-after : history_of (state_after S f spare h calls) ≡ whole (newest_first S (book_after S f spare h calls))
  entries-after = history-entries S L.short (state_after S f spare h calls) (book_after S f spare h calls) simulates-after

  -- 30, the file's own refusal and 31 do not arise
  pub stands_after : buffers_rule S (state_after S f spare h calls) ≡ Valid
  stands_after = stands-valid S L.short (state_after S f spare h calls) (book_after S f spare h calls) simulates-after

  -- an edit is refused by its own refusals of the file, and then by 37 at 0 where its entry alone exceeds the history buffer: no other
  pub edit-refusals : (e : S.Edit) → P e → (n : Reason) (p : ℕ) → (step S (edit e) (state_after S f spare h calls)).answer ≡ Refused n p
      → (S.refuses e (length (f ++ spare)) (file_of (state_after S f spare h calls)) ≡ Refused n p)
      ⊎ (((n ≡ reason.HistoryTooSmall) × (p ≡ 0))
      × (length h
      < entry_size (entry_of (file_of (state_after S f spare h calls)) (S.applied e (file_of (state_after S f spare h calls))))))
  unfolding book_answer book_edit_rule book
  edit-refusals e ok n p a =
      let m = state_after S f spare h calls in
      let b = book_after S f spare h calls in
      let k = keeps-final S calls (book S f (length (f ++ spare)) (length h)) in
      let file : file_of m ≡ book_file S b = simulates-after.file-is in
      let r = answer-refused S (book_edit_rule S e b) (book_next S (edit e) b) n p (sym (edit-simulates S P L e m b ok simulates-after).same_answer ∙ a) in
      let size = entry_size (entry_of (book_file S b) (S.applied e (book_file S b))) in
      ⊎_elim
      (λ own. inl (rw file (ap (λ (x : ℕ). S.refuses e x (book_file S b)) (sym k.same-room) ∙ own)))
      (λ full.
      let large : length h < size = omega (arith, k.same-history, leb-false size b.history_size full.1) in
      inr (full.0, rw file large))
      (then-refusals (S.refuses e b.room_size (book_file S b)) (leb size b.history_size) reason.HistoryTooSmall n p r)

  -- an undo is refused exactly where no standing edit's entry is kept, and then by 38 at 0: 39 does not arise
  pub undo-refusals : (n : Reason) (p : ℕ) → (step S undo (state_after S f spare h calls)).answer ≡ Refused n p
      → ((n ≡ reason.NoUndo) × (p ≡ 0)) × (any_kept S (book_after S f spare h calls).standing ≡ false)
  unfolding book_answer book_undo_rule
  undo-refusals n p a =
      let m = state_after S f spare h calls in
      let b = book_after S f spare h calls in
      let r = answer-refused S (book_undo_rule S b) (book_next S undo b) n p (sym (undo-step S L.short m b simulates-after).same_answer ∙ a) in
      unless-refused (any_kept S b.standing) reason.NoUndo n p r

  pub undo-refused : any_kept S (book_after S f spare h calls).standing ≡ false
      → (step S undo (state_after S f spare h calls)).answer ≡ Refused reason.NoUndo 0
  unfolding book_answer book_undo_rule answer_by unless
  undo-refused none =
      let m = state_after S f spare h calls in
      let b = book_after S f spare h calls in
      (undo-step S L.short m b simulates-after).same_answer ∙ rw none

  -- an undo that is accepted takes back the last standing edit: the file is that of the standing edits without the last
  pub undo-takes-back : (len used n : ℕ) → (step S undo (state_after S f spare h calls)).answer ≡ done_with len used n
      → file_of (next S undo (state_after S f spare h calls)) ≡ file_after S f (without_last S (book_after S f spare h calls).standing)
  unfolding book_answer book_next after_undo with_standing book_file book
  undo-takes-back len used n a =
      let m = state_after S f spare h calls in
      let b = book_after S f spare h calls in
      let s = undo-step S L.short m b simulates-after in
      let k = keeps-final S calls (book S f (length (f ++ spare)) (length h)) in
      let g : book_undo_rule S b ≡ Valid = answer-done S (book_undo_rule S b) (book_next S undo b) len used n (sym s.same_answer ∙ a) in
      s.simulates.file-is ∙ rw (g, k.same-opening)
