-- Laws of an undo: the entry taken back, and the history without it.
use Prim.Native.Nat.{ℕ, ◌+◌, ◌-◌, ◌≤◌, ◌<◌, max}
use mathlib.Core.Path.{◌≡◌, refl, ap, sym, ◌∙◌}
use mathlib.Core.Bool.{Bool, true, false, ◌&&◌, cond}
use mathlib.Core.List.{List, [], ◌∷◌, ◌++◌, append_assoc}
use native.Mathlib.Omega.{arith}
use native.Mathlib.Nat.{sub_self, zero-add}
use lib.ListN.{length, take, drop, length-append, length-drop, length-take}
use lib.Seq.{drop-drop, length-take-le, take_all}
use lib.Dec.{leb}
use borrow.Author.Tests.{le-leb, lt-leb, leb-true}
use Rattle.fields.specs.Bytes.{part, over, zeros}
use Rattle.fields.specs.Rule.{◌then◌, unless, is_valid, Validity, Valid, Refused}
use Rattle.fields.proofs.Laws.{AllBytes, bytes_take, bytes_drop, length_part, length-zeros, part-part, over-over, over_zero}
use Rattle.m17.specs.declared.Edition.{Edition}
use Rattle.file_rule.specs.File.{file_rule}
use Rattle.buffers.specs.Cut.{cut}
use Rattle.buffers.specs.Splice.{spliced}
use Rattle.buffers.proofs.Laws.{spliced-whole, spliced-of, spliced-content}
use Rattle.journal.specs.Entry.{Entry, Entries, whole, broken, entries_of, front_of, front, none, before, history_bytes}
use Rattle.journal.specs.History.{number_of_entries}
use Rattle.journal.specs.Change.{revert}
use Rattle.journal.specs.Machine.{holding, file_of, entry_list, history_of, entry_fits, buffers_rule, refused, done, top_rule, undo_rule, revert_top, without_top, undo_outcome, undo_step}
use Rattle.journal.specs.declared.scan.EntryHead.{EntryHead}
use Rattle.journal.proofs.Laws.{entries_none, entries_next, entries-stop, entries-canonical}
use Rattle.journal.proofs.ScanLaws.{HeadRead, Held, counted-held}
use Rattle.edits.specs.Editing.{editing}
use Rattle.preconditions.specs.Calls.{state_of, outcome_of}
use Rattle.undo.specs.Undo.{Tried, headed, undone}
use Rattle.preconditions.proofs.PreconditionLaws.{and_both, preconditions-inside, preconditions-entries}
use Rattle.std.specs.Prelude.{Some, None, Option, Err}
use Rattle.format.specs.declared.refusals.Reason.TheVariants as reason
use Rattle.journal.specs.Answer.{done_with}
use Rattle.format.specs.declared.refusals.Refusal.{Refusal}

-- ---- the front of a content dropped

pub dropped : (d x y : List ℕ) (used n : ℕ) → x ≡ over d (n - n) (part d n (used - n)) → y ≡ over x (used - n) (zeros n) → n ≤ used
    → used ≤ length d → y ≡ holding d used (part d n (used - n))
unfolding holding
dropped d x y used n e f h g =
    let s = part d n (used - n) in
    let l : length s ≡ used - n = length_part d n (used - n) (omega arith) in
    let a : used - length s ≡ n = omega arith in
    let b : max used (length s) ≡ used = omega arith in
    let c : length (s ++ zeros n) ≡ used = rw (length-append s (zeros n), length-zeros n) (omega arith) in
    rw (f, e, sub_self n, over-over d 0 s (used - n) (zeros n) (omega arith) (omega arith), over_zero d (s ++ zeros n), c, a, b)
    (append_assoc s (zeros n) (drop used d))

-- only what lies behind the dropped front counts
dropped-behind : (d x : List ℕ) (used n : ℕ) → drop n x ≡ drop n d → n ≤ used → used ≤ length d
    → holding x used (part x n (used - n)) ≡ holding d used (part d n (used - n))
unfolding holding
dropped-behind d x used n e h g =
    let l : length (part d n (used - n)) ≡ used - n = length_part d n (used - n) (omega arith) in
    let b : max used (length (part d n (used - n))) ≡ n + (used - n) = omega arith in
    let f : drop (n + (used - n)) x ≡ drop (n + (used - n)) d =
    sym (drop-drop (used - n) n x) ∙ ap (λ (s : List ℕ). drop (used - n) s) e ∙ drop-drop (used - n) n d
    in
    rw (e, b, f)

-- ---- the room with the entry's bytes put back

module _ (d : List ℕ) (len p k : ℕ) (o : List ℕ) (inside : p + k ≤ len) (held : len ≤ length d) where
  length_cut : length (cut (take len d) p k o) ≡ len - k + length o
  unfolding cut
  length_cut =
      let l : length (take len d) ≡ len = length-take-le len d held in
      let a : length (take p (take len d)) ≡ p = length-take-le p (take len d) (omega arith) in
      rw (length-append, length-append, a, length-drop, l) (omega arith)

  spliced-holding : len + length o ≤ length d + k → spliced d len p k o ≡ holding d len (cut (take len d) p k o)
  unfolding holding
  spliced-holding fits =
      let c : cut (take len d) p k o ≡ take p d ++ (o ++ part d (p + k) (len - (p + k))) =
      unfold cut in (sym (spliced-of d len p k o inside held fits (take len d) refl) ∙ spliced-content d len p k o inside held fits)
      in
      let l = length_cut in
      let a : len - length (cut (take len d) p k o) ≡ k - length o = omega arith in
      let b : max len (length (cut (take len d) p k o)) ≡ len + (length o - k) = omega arith in
      rw (a, b, c) (spliced-whole d len p k o inside held fits)

-- ---- whether an entry fits

revert-cut : (h : List ℕ) (top : EntryHead) (f : List ℕ)
    → revert (headed h top) f ≡ cut f top.place top.put (part h top.body top.taken)
unfolding revert headed cut
revert-cut h top f = refl

fits_by : (ed : Edition) (h : List ℕ) (top : EntryHead) (d : List ℕ) (len used : ℕ)
    → entry_fits (editing ed) (headed h top) (state_of d len h used)
    ≡ leb (top.place + top.put) len
    && (leb (length (revert (headed h top) (take len d))) (length d) && is_valid (file_rule ed (revert (headed h top) (take len d))))
unfolding entry_fits headed file_of
fits_by ed h top d len used = refl

module _ (d : List ℕ) (len : ℕ) (h : List ℕ) (used : ℕ) (top : EntryHead) (entries : ℕ) where
  pub not-fitting : (ed : Edition) → entry_fits (editing ed) (headed h top) (state_of d len h used) ≡ false
      → outcome_of (Refused reason.HistoryEntry 0) d h ≡ undone ed d len h used top entries
  unfolding undone refused
  not-fitting ed e = rw e

  pub past-codeplug : (ed : Edition) → len < top.place + top.put → outcome_of (Refused reason.HistoryEntry 0) d h ≡ undone ed d len h used top entries
  past-codeplug ed g = not-fitting ed (rw (fits_by ed h top d len used, lt-leb (top.place + top.put) len g))

  module _ (inside : top.place + top.put ≤ len) (held : len ≤ length d) (stored : top.body + top.taken ≤ length h) where
    result-length : length (revert (headed h top) (take len d)) ≡ len - top.put + top.taken
    result-length =
        let l : length (part h top.body top.taken) ≡ top.taken = length_part h top.body top.taken stored in
        ap length (revert-cut h top (take len d))
        ∙ length_cut d len top.place top.put (part h top.body top.taken) inside held
        ∙ rw l

    pub past_room : (ed : Edition) → length d < len - top.put + top.taken → outcome_of (Refused reason.HistoryEntry 0) d h ≡ undone ed d len h used top entries
    past_room ed g =
        let l = result-length in
        let n : length d < length (revert (headed h top) (take len d)) = omega arith in
        not-fitting ed (
        rw (
          fits_by ed h top d len used,
          le-leb (top.place + top.put) len inside,
          lt-leb (length (revert (headed h top) (take len d))) (length d) n,
        )
        )

    module _ (fits : len + top.taken ≤ length d + top.put) where
      -- what is left to say is whether reading the result is valid
      fits-validated : (ed : Edition) (valid : Bool)
          → valid ≡ is_valid (file_rule ed (cut (take len d) top.place top.put (part h top.body top.taken)))
          → entry_fits (editing ed) (headed h top) (state_of d len h used) ≡ valid
      fits-validated ed valid e =
          let l = result-length in
          let n : length (revert (headed h top) (take len d)) ≤ length d = omega arith in
          rw (
            fits_by ed h top d len used,
            le-leb (top.place + top.put) len inside,
            le-leb (length (revert (headed h top) (take len d))) (length d) n,
            revert-cut h top (take len d),
          )
          (sym e)

      -- the result is refused: both buffers are as they were
      pub refused-back : (ed : Edition) (d₁ h₁ : List ℕ) (valid : Bool) → Tried ed d len top.place top.put h top.body top.taken valid d₁ h₁ → valid ≡ false
          → outcome_of (Refused reason.HistoryEntry 0) d₁ h₁ ≡ undone ed d len h used top entries
      refused-back ed d₁ h₁ valid t g =
          let e : d₁ ≡ d = t.room-is ∙ rw g in
          let f : h₁ ≡ h = t.kept g in
          rw (e, f) (not-fitting ed (fits-validated ed valid t.validated ∙ g))

      -- the result is valid: the entry is dropped, h₂ is the history after that
      pub taken_back : (ed : Edition) (d₁ h₁ h₂ : List ℕ) (valid : Bool) → Tried ed d len top.place top.put h top.body top.taken valid d₁ h₁
          → valid ≡ true → top.next ≡ top.body + top.taken → top.body + top.taken ≤ used → used ≤ length h
          → h₂ ≡ holding h₁ used (part h₁ (top.body + top.taken) (used - (top.body + top.taken)))
          → outcome_of (done_with (len - top.put + top.taken) (used - (top.body + top.taken)) (entries - 1)) d₁ h₂
          ≡ undone ed d len h used top entries
      unfolding undone
      taken_back ed d₁ h₁ h₂ valid t g n a b i =
          let o = part h top.body top.taken in
          let l : length o ≡ top.taken = length_part h top.body top.taken stored in
          let room-is : d₁ ≡ holding d len (revert (headed h top) (take len d)) =
          t.room-is ∙ rw g (spliced-holding d len top.place top.put o inside held (omega arith))
          ∙ ap (λ (s : List ℕ). holding d len s) (sym (revert-cut h top (take len d)))
          in
          let history-is : h₂ ≡ holding h used (part h (top.body + top.taken) (used - (top.body + top.taken))) =
          i ∙ dropped-behind h h₁ used (top.body + top.taken) t.behind-is a b
          in
          rw (fits-validated ed valid t.validated, g, room-is, history-is, n)

-- ---- the first entry of a history

pub held-read : (s : List ℕ) (n : ℕ) {r : Option ℕ} → r ≡ number_of_entries (entries_of s) → r ≡ Some n → Held s n
held-read s n e f = counted-held s n (sym e ∙ f)

-- a history whose entry e comes first, then t
pub record First (e : Entry) (t : List ℕ) (es : List Entry) : Type 0 where
  pub rest : List Entry
  pub is : es ≡ e ∷ rest
  pub rest-is : entries_of t ≡ whole rest

first_by : (e : Entry) (t : List ℕ) (es : List Entry) (r : Entries) → entries_of t ≡ r → before (front e t) r ≡ whole es → First e t es
unfolding before
first_by e t es (whole rest) f g = record { rest = rest; is = cc; rest-is = f }
first_by e t es broken f g = let z : ◌≡◌ {A = ℕ} 0 1 = cc in absurd (omega arith)

pub first-held : (s : List ℕ) (e : Entry) (t : List ℕ) (es : List Entry) → entries_of s ≡ whole es → front_of s ≡ front e t → First e t es
first-held s e t es f g = first_by e t es (entries_of t) refl (sym (entries_next s e t g) ∙ f)

none-held : (s : List ℕ) (es : List Entry) → entries_of s ≡ whole es → front_of s ≡ none → es ≡ []
none-held [] es f g = let q : whole [] ≡ whole es = sym entries_none ∙ f in cc
none-held (x ∷ s) es f g =
    let q : broken ≡ whole es = sym (entries-stop (x ∷ s) (omega arith) g) ∙ f in
    let z : ◌≡◌ {A = ℕ} 0 1 = cc in
    absurd (omega arith)

part-take : (h : List ℕ) (used k n : ℕ) → k + n ≤ used → part (take used h) k n ≡ part h k n
part-take h used k n g = part-part h 0 used k n g ∙ rw zero-add

drop_of_take : (h : List ℕ) (used n : ℕ) → n ≤ used → used ≤ length h → drop n (take used h) ≡ part h n (used - n)
drop_of_take h used n g f =
    let l : length (drop n (take used h)) ≤ used - n = simp (length-drop, length-take) (omega arith) in
    sym (take_all (used - n) (drop n (take used h)) l) ∙ part-take h used n (used - n) (omega arith)

top-is : (h : List ℕ) (used : ℕ) (top : EntryHead) (r : HeadRead (take used h) 0 top) → used ≤ length h → headed h top ≡ r.entry
unfolding headed
top-is h used top r g =
    let l : length (take used h) ≡ used = length-take-le used h g in
    let i = r.inside in
    let n = r.next-is in
    let o : part h top.body top.taken ≡ r.entry.old =
    sym (part-take h used top.body top.taken (omega arith)) ∙ r.old-is
    in
    rw (o, r.place_is, r.put_is)

-- ---- the call

pub undo-refused : (ed : Edition) (d : List ℕ) (len : ℕ) (h : List ℕ) (used : ℕ) (x : Refusal) {v : Validity} → v ≡ buffers_rule (editing ed) (state_of d len h used) → v ≡ Err x
    → outcome_of (Err x) d h ≡ undo_step (editing ed) (state_of d len h used)
unfolding undo_step undo_rule undo_outcome refused ◌then◌
undo-refused ed d len h used x e f = rw (sym e ∙ f)

module _ (ed : Edition) (d : List ℕ) (len : ℕ) (h : List ℕ) (used : ℕ) (fine : buffers_rule (editing ed) (state_of d len h used) ≡ Valid) where
  pub undo-broken : {r : Option ℕ} → r ≡ number_of_entries (entries_of (take used h)) → r ≡ None
      → outcome_of (Refused reason.BadHistory 0) d h ≡ undo_step (editing ed) (state_of d len h used)
  unfolding history_of
  undo-broken e f = absurd (preconditions-entries ed (state_of d len h used) fine (sym e ∙ f))

  pub undo-none : (n : ℕ) → Held (take used h) n → front_of (take used h) ≡ none
      → outcome_of (Refused reason.NoUndo 0) d h ≡ undo_step (editing ed) (state_of d len h used)
  unfolding undo_step undo_rule top_rule undo_outcome history_of entry_list refused ◌then◌
  undo-none n e f = rw (fine, e.held-is, none-held (take used h) e.held e.held-is f)

  told-by : (e : Entry) (rest : List Entry) (fits : Bool)
      → undo_outcome (editing ed) (state_of d len h used) (unless fits reason.HistoryEntry 0) (e ∷ rest)
      ≡ cond fits (done (revert e (take len d)) rest (state_of d len h used)) (refused reason.HistoryEntry 0 (state_of d len h used))
  unfolding undo_outcome revert_top without_top unless file_of
  told-by e rest true = refl
  told-by e rest false = refl

  undo-first : (e : Entry) (rest : List Entry) → entries_of (take used h) ≡ whole (e ∷ rest)
      → undo_step (editing ed) (state_of d len h used)
      ≡ cond (entry_fits (editing ed) e (state_of d len h used)) (done (revert e (take len d)) rest (state_of d len h used)) (refused reason.HistoryEntry 0 (state_of d len h used))
  unfolding undo_step undo_rule top_rule history_of entry_list ◌then◌
  undo-first e rest f = rw (fine, f) (told-by e rest (entry_fits (editing ed) e (state_of d len h used)))

  -- the two ways to tell it agree, entry by entry
  undone-is : (top : EntryHead) (n : ℕ) (rest : List Entry) (v : Bool) → top.next ≡ top.body + top.taken → top.next ≤ used
      → history_bytes rest ≡ part h top.next (used - top.next) → length rest ≡ n - 1
      → entry_fits (editing ed) (headed h top) (state_of d len h used) ≡ v
      → undone ed d len h used top n
      ≡ cond (entry_fits (editing ed) (headed h top) (state_of d len h used)) (done (revert (headed h top) (take len d)) rest (state_of d len h used))
      (refused reason.HistoryEntry 0 (state_of d len h used))
  unfolding undone done
  undone-is top n rest false a b c m e = rw e
  undone-is top n rest true a b c m e =
      let i = preconditions-inside ed d len h used fine in
      let q : top.place + top.put ≤ len =
      leb-true (top.place + top.put) len (and_both (leb (top.place + top.put) len) _ (sym (fits_by ed h top d len used) ∙ e)).0
      in
      let l : length (revert (headed h top) (take len d)) ≡ len - top.put + top.taken =
      result-length d len h used top n q i.0 (omega arith)
      in
      let k : length (part h top.next (used - top.next)) ≡ used - top.next = length_part h top.next (used - top.next) (omega arith) in
      rw (e, l, c, k, m)

  pub undo-first-entry : (top : EntryHead) (n : ℕ) → Held (take used h) n → HeadRead (take used h) 0 top → AllBytes h
      → undone ed d len h used top n ≡ undo_step (editing ed) (state_of d len h used)
  undo-first-entry top n w r b =
      let i = preconditions-inside ed d len h used fine in
      let s = take used h in
      let l : length s ≡ used = length-take-le used h i.1 in
      let inside = r.inside in
      let t = drop top.next s in
      let f = first-held s r.entry t w.held w.held-is r.front-is in
      let c : history_bytes f.rest ≡ part h top.next (used - top.next) =
      (entries-canonical t f.rest (bytes_drop top.next s (bytes_take used h b)) f.rest-is).0
      ∙ drop_of_take h used top.next (omega arith) i.1
      in
      let m : length f.rest ≡ n - 1 = omega (arith, ap length f.is, w.many) in
      let g : entries_of s ≡ whole (r.entry ∷ f.rest) = w.held-is ∙ ap (λ (es : List Entry). whole es) f.is in
      undone-is top n f.rest (entry_fits (editing ed) (headed h top) (state_of d len h used)) r.next-is (omega arith) c m refl
      ∙ rw (top-is h used top r i.1) (sym (undo-first r.entry f.rest g))

  -- what the entry asks of the call that takes it back
  pub undo-asks : (top : EntryHead) (n : ℕ) → Held (take used h) n → HeadRead (take used h) 0 top
      → ((len ≤ length d) × (used ≤ length h)) × (((top.next ≡ top.body + top.taken) × (top.next ≤ used)) × (1 ≤ n))
  undo-asks top n w r =
      let i = preconditions-inside ed d len h used fine in
      let l : length (take used h) ≡ used = length-take-le used h i.1 in
      let inside = r.inside in
      let f = first-held (take used h) r.entry (drop top.next (take used h)) w.held w.held-is r.front-is in
      let m : 1 ≤ n = omega (arith, ap length f.is, w.many) in
      (i, ((r.next-is, omega arith), m))
