-- Laws of the book alone: one edit more, one edit less, the oldest kept entry dropped, and the trimming as the longest run that fits.
use Prim.Native.Nat.{ℕ, zero, suc, ◌≤◌, ◌<◌}
use mathlib.Core.Path.{◌≡◌, refl, ap, sym, subst, ◌∙◌}
use mathlib.Core.Bool.{Bool, true, false, true≢false, cond, ◌||◌}
use mathlib.Core.Logic.{◌⊎◌, inl, inr, ⊎_elim}
use mathlib.Core.List.{List, [], ◌∷◌, ◌++◌, reverse, reverse-cons, tail}
use native.Mathlib.Omega.{arith}
use lib.ListN.{length}
use lib.Dec.{leb}
use borrow.Author.Tests.{leb-true, leb-false}
use Rattle.fields.proofs.Laws.{AllBytes}
use Rattle.journal.specs.Entry.{Entry, history_bytes}
use Rattle.journal.specs.History.{fitting_run}
use Rattle.journal.specs.Change.{entry_of}
use Rattle.journal.specs.EditSystem.{EditSystem}
use Rattle.journal.specs.Book.{Standing, file_after, kept_entries, together, drop_oldest, trimmed, any_kept, without_last}
use Rattle.journal.proofs.Laws.{ValidEntry, AllValid, valid-append, history-none, history-size, history-sizes, kept-all, kept-none, kept-oldest}
use Rattle.journal.proofs.ChangeLaws.{valid-entry_of}
use Rattle.fields.specs.Rule.{Valid}

known : (t : Bool) → (t ≡ true) ⊎ (t ≡ false)
known true = inl refl
known false = inr refl

-- ---- entries oldest first and newest first

pub together-reverse : (S : EditSystem) (es : List Entry) → length (history_bytes (reverse es)) ≡ together S es
unfolding together
together-reverse S [] = ap length history-none
together-reverse S (e ∷ es) =
    ap (λ (l : List Entry). length (history_bytes l)) (reverse-cons e es)
    ∙ omega (
      arith,
      history-sizes (reverse es) (e ∷ []),
      history-size e [],
      ap length history-none,
      together-reverse S es,
    )

pub valid-reverse : (es : List Entry) → AllValid es → AllValid (reverse es)
valid-reverse [] g = tt
valid-reverse (e ∷ es) g = rw (reverse-cons e es) (valid-append (reverse es) (e ∷ []) (valid-reverse es g.1) (g.0, tt))

none_left : (size : ℕ) (es : List Entry) → length es ≤ 0 → reverse es ≡ fitting_run size (reverse es)
none_left size [] h = sym (kept-none size)
none_left size (e ∷ es) h = absurd (omega arith)

kept-tail : (S : EditSystem) (size : ℕ) (es : List Entry) → size < together S es → fitting_run size (reverse es) ≡ fitting_run size (reverse (tail es))
kept-tail S size [] h = refl
kept-tail S size (e ∷ es) h =
    let r = reverse-cons e es in
    let g : length (history_bytes (reverse (e ∷ es))) ≡ length (history_bytes (reverse es ++ (e ∷ []))) =
    ap (λ (l : List Entry). length (history_bytes l)) r
    in
    ap (λ (l : List Entry). fitting_run size l) r
    ∙ kept-oldest size (reverse es) e (omega (arith, together-reverse S (e ∷ es)))

length-tail : (es : List Entry) (n : ℕ) → length es ≤ suc n → length (tail es) ≤ n
length-tail [] n h = omega arith
length-tail (e ∷ es) n h = omega arith

in-front : (t : Bool) (e : Entry) (a b c : List Entry) → a ≡ b ++ c → cond t (e ∷ a) a ≡ cond t (e ∷ b) b ++ c
in-front true e a b c h = ap (λ (l : List Entry). e ∷ l) h
in-front false e a b c h = h

none_after : (t u : Bool) (e : Entry) (es : List Entry) → t || u ≡ false → (u ≡ false → es ≡ []) → cond t (e ∷ es) es ≡ []
none_after true u e es h g = absurd (true≢false h)
none_after false u e es h g = g h

valid-front : (t : Bool) (e : Entry) (es : List Entry) → ValidEntry e → AllValid es → AllValid (cond t (e ∷ es) es)
valid-front true e es g h = (g, h)
valid-front false e es g h = h

entries_by : (t : Bool) (e : Entry) (es : List Entry) (n : ℕ) → length es ≤ n → length (cond t (e ∷ es) es) ≤ suc n
entries_by true e es n h = omega arith
entries_by false e es n h = omega arith

or-none : (t : Bool) → t || false ≡ true → t ≡ true
or-none true e = refl
or-none false e = e

or-second : (t u : Bool) → t ≡ false → t || u ≡ true → u ≡ true
or-second t u e h = rw e at h

-- ---- the files of a book: each is accepted, made of bytes, and fits the room

pub record Fine (S : EditSystem) (room : ℕ) (f : List ℕ) : Type 0 where
  pub accepted : S.accepts f ≡ Valid
  pub bytes : AllBytes f
  pub fits : length f ≤ room

-- where an entry is kept, so are all later ones
abbrev pub AllKept : (S : EditSystem) → List (Standing S) → Type 0
AllKept S [] = Unit
AllKept S (s ∷ l) = (s.kept ≡ true) × AllKept S l

abbrev pub NewestKept : (S : EditSystem) → List (Standing S) → Type 0
NewestKept S [] = Unit
NewestKept S (s ∷ l) = (s.kept ≡ true → AllKept S l) × NewestKept S l

-- the file before and after each standing edit
abbrev pub AllFine : (S : EditSystem) → ℕ → List ℕ → List (Standing S) → Type 0
AllFine S room f [] = Fine S room f
AllFine S room f (s ∷ l) = Fine S room f × AllFine S room (S.applied s.made f) l

module _ (S : EditSystem) where
  -- ---- one edit more

  pub file-last : (f : List ℕ) (l : List (Standing S)) (s : Standing S)
      → file_after S f (l ++ (s ∷ [])) ≡ S.applied s.made (file_after S f l)
  unfolding file_after
  file-last f [] s = refl
  file-last f (x ∷ l) s = file-last (S.applied x.made f) l s

  pub entries-last : (f : List ℕ) (l : List (Standing S)) (s : Standing S) → s.kept ≡ true
      → kept_entries S f (l ++ (s ∷ []))
      ≡ kept_entries S f l ++ (entry_of (file_after S f l) (S.applied s.made (file_after S f l)) ∷ [])
  unfolding kept_entries file_after
  entries-last f [] s h = rw h
  entries-last f (x ∷ l) s h =
      let g = S.applied x.made f in
      in-front x.kept (entry_of f g) (kept_entries S g (l ++ (s ∷ []))) (kept_entries S g l)
      (entry_of (file_after S g l) (S.applied s.made (file_after S g l)) ∷ [])
      (entries-last g l s h)

  pub fine_more : (room : ℕ) (f : List ℕ) (l : List (Standing S)) (s : Standing S) → AllFine S room f l
      → Fine S room (S.applied s.made (file_after S f l)) → AllFine S room f (l ++ (s ∷ []))
  unfolding file_after
  fine_more room f [] s h g = (h, g)
  fine_more room f (x ∷ l) s h g = (h.0, fine_more room (S.applied x.made f) l s h.1 g)

  all_more : (l : List (Standing S)) (s : Standing S) → s.kept ≡ true → AllKept S l → AllKept S (l ++ (s ∷ []))
  all_more [] s h g = (h, tt)
  all_more (x ∷ l) s h g = (g.0, all_more l s h g.1)

  pub newest-more : (l : List (Standing S)) (s : Standing S) → s.kept ≡ true → NewestKept S l → NewestKept S (l ++ (s ∷ []))
  newest-more [] s h g = (λ _. tt, tt)
  newest-more (x ∷ l) s h g = (λ k. all_more l s h (g.0 k), newest-more l s h g.1)

  -- ---- one edit less

  pub without-last : (l : List (Standing S)) (s : Standing S) → without_last S (l ++ (s ∷ [])) ≡ l
  unfolding without_last
  without-last [] s = refl
  without-last (x ∷ []) s = refl
  without-last (x ∷ (y ∷ l)) s = ap (λ (k : List (Standing S)). x ∷ k) (without-last (y ∷ l) s)

  pub fine-less : (room : ℕ) (f : List ℕ) (l : List (Standing S)) (s : Standing S) → AllFine S room f (l ++ (s ∷ [])) → AllFine S room f l
  fine-less room f [] s h = h.0
  fine-less room f (x ∷ l) s h = (h.0, fine-less room (S.applied x.made f) l s h.1)

  all-less : (l : List (Standing S)) (s : Standing S) → AllKept S (l ++ (s ∷ [])) → AllKept S l × (s.kept ≡ true)
  all-less [] s h = (tt, h.0)
  all-less (x ∷ l) s h = let r = all-less l s h.1 in ((h.0, r.0), r.1)

  pub newest-less : (l : List (Standing S)) (s : Standing S) → NewestKept S (l ++ (s ∷ [])) → NewestKept S l
  newest-less [] s h = tt
  newest-less (x ∷ l) s h = (λ k. (all-less l s (h.0 k)).0, newest-less l s h.1)

  -- where any entry is kept, the last edit's is
  newest-last : (l : List (Standing S)) (s : Standing S) → NewestKept S (l ++ (s ∷ [])) → any_kept S (l ++ (s ∷ [])) ≡ true
      → s.kept ≡ true
  unfolding any_kept
  newest-last [] s h g = or-none s.kept g
  newest-last (x ∷ l) s h g =
      ⊎_elim
      (λ yes. (all-less l s (h.0 yes)).1)
      (λ no. newest-last l s h.1 (or-second x.kept (any_kept S (l ++ (s ∷ []))) no g))
      (known x.kept)

  -- the last standing edit, its entry kept
  pub record LastKept (l : List (Standing S)) : Type 0 where
    pub front : List (Standing S)
    pub last : Standing S
    pub is : l ≡ front ++ (last ∷ [])
    pub kept-is : last.kept ≡ true

  record Ended (l : List (Standing S)) : Type 0 where
    front : List (Standing S)
    last : Standing S
    is : l ≡ front ++ (last ∷ [])

  ended : (s : Standing S) (l : List (Standing S)) → Ended (s ∷ l)
  ended s [] = record { front = []; last = s; is = refl }
  ended s (t ∷ l) =
      let r = ended t l in
      record { front = s ∷ r.front; last = r.last; is = ap (λ (k : List (Standing S)). s ∷ k) r.is }

  pub last-kept : (l : List (Standing S)) → NewestKept S l → any_kept S l ≡ true → LastKept l
  last-kept [] n f = absurd (true≢false (sym (unfold any_kept in f)))
  last-kept (s ∷ l) n f =
      let r = ended s l in
      record {
        front = r.front;
        last = r.last;
        is = r.is;
        kept-is = newest-last r.front r.last (subst (λ (k : List (Standing S)). NewestKept S k) r.is n) (rw r.is at f);
      }

  -- ---- no entry kept

  pub entries_none : (f : List ℕ) (l : List (Standing S)) → any_kept S l ≡ false → kept_entries S f l ≡ []
  unfolding any_kept kept_entries
  entries_none f [] h = refl
  entries_none f (x ∷ l) h =
      let g = S.applied x.made f in
      none_after x.kept (any_kept S l) (entry_of f g) (kept_entries S g l) h (λ e. entries_none g l e)

  -- ---- the files

  pub fine-last : (room : ℕ) (f : List ℕ) (l : List (Standing S)) → AllFine S room f l → Fine S room (file_after S f l)
  unfolding file_after
  fine-last room f [] h = h
  fine-last room f (x ∷ l) h = fine-last room (S.applied x.made f) l h.1

  fine-first : (room : ℕ) (f : List ℕ) (l : List (Standing S)) → AllFine S room f l → Fine S room f
  fine-first room f [] h = h
  fine-first room f (x ∷ l) h = h.0

  -- where accepted files are short enough, every entry is within its rule
  pub entries-valid : ((f : List ℕ) → S.accepts f ≡ Valid → length f ≤ 1_048_576) → (room : ℕ) (f : List ℕ)
      (l : List (Standing S)) → AllFine S room f l → AllValid (kept_entries S f l)
  unfolding kept_entries
  entries-valid short room f [] h = tt
  entries-valid short room f (x ∷ l) h =
      let g = S.applied x.made f in
      let old = h.0 in
      let new = fine-first room g l h.1 in
      valid-front x.kept (entry_of f g) (kept_entries S g l)
      (valid-entry_of f g (short f old.accepted) (short g new.accepted) old.bytes)
      (entries-valid short room g l h.1)

  -- ---- the oldest kept entry is dropped

  oldest-here : (s : Standing S) (l : List (Standing S)) → s.kept ≡ true
      → drop_oldest S (s ∷ l) ≡ record { made = s.made; kept = false } ∷ l
  unfolding drop_oldest
  oldest-here s l h = rw h

  oldest-later : (s : Standing S) (l : List (Standing S)) → s.kept ≡ false → drop_oldest S (s ∷ l) ≡ s ∷ drop_oldest S l
  unfolding drop_oldest
  oldest-later s l h = rw h

  pub file-oldest : (f : List ℕ) (l : List (Standing S)) → file_after S f (drop_oldest S l) ≡ file_after S f l
  unfolding file_after
  file-oldest f [] = unfold drop_oldest in refl
  file-oldest f (s ∷ l) =
      ⊎_elim
      (λ yes. rw (oldest-here s l yes))
      (λ no. rw (oldest-later s l no) (file-oldest (S.applied s.made f) l))
      (known s.kept)

  pub entries-oldest : (f : List ℕ) (l : List (Standing S)) → kept_entries S f (drop_oldest S l) ≡ tail (kept_entries S f l)
  unfolding kept_entries
  entries-oldest f [] = unfold drop_oldest in refl
  entries-oldest f (s ∷ l) =
      ⊎_elim
      (λ yes. rw (oldest-here s l yes, yes))
      (λ no. rw (oldest-later s l no, no) (entries-oldest (S.applied s.made f) l))
      (known s.kept)

  pub fine-oldest : (room : ℕ) (f : List ℕ) (l : List (Standing S)) → AllFine S room f l → AllFine S room f (drop_oldest S l)
  fine-oldest room f [] h = unfold drop_oldest in h
  fine-oldest room f (s ∷ l) h =
      ⊎_elim
      (λ yes. rw (oldest-here s l yes) h)
      (λ no. rw (oldest-later s l no) (h.0, fine-oldest room (S.applied s.made f) l h.1))
      (known s.kept)

  pub newest-oldest : (l : List (Standing S)) → NewestKept S l → NewestKept S (drop_oldest S l)
  newest-oldest [] h = unfold drop_oldest in tt
  newest-oldest (s ∷ l) h =
      ⊎_elim
      (λ yes. rw (oldest-here s l yes) (λ e. absurd (true≢false (sym e)), h.1))
      (λ no. rw (oldest-later s l no) (λ e. absurd (true≢false (sym e ∙ no)), newest-oldest l h.1))
      (known s.kept)

  -- ---- the trimming

  trimmed-by : (P : List (Standing S) → Type 0) (t : Bool) (a b : List (Standing S)) → P a → P b → P (cond t a b)
  trimmed-by P true a b h g = h
  trimmed-by P false a b h g = g

  -- whatever dropping the oldest keeps
  pub trimmed-keeps : (P : List (Standing S) → Type 0) → ((l : List (Standing S)) → P l → P (drop_oldest S l)) → (n size : ℕ) (f : List ℕ)
      (l : List (Standing S)) → P l → P (trimmed S n size f l)
  unfolding trimmed
  trimmed-keeps P step zero size f l h = h
  trimmed-keeps P step (suc n) size f l h =
      trimmed-by P (leb (together S (kept_entries S f l)) size) l (trimmed S n size f (drop_oldest S l)) h
      (trimmed-keeps P step n size f (drop_oldest S l) (step l h))

  pub file-trimmed : (n size : ℕ) (f : List ℕ) (l : List (Standing S)) → file_after S f (trimmed S n size f l) ≡ file_after S f l
  file-trimmed n size f l =
      trimmed-keeps (λ k. file_after S f k ≡ file_after S f l) (λ k e. file-oldest f k ∙ e) n size f l refl

  trim-stop : (n size : ℕ) (f : List ℕ) (l : List (Standing S)) → leb (together S (kept_entries S f l)) size ≡ true
      → trimmed S (suc n) size f l ≡ l
  unfolding trimmed
  trim-stop n size f l h = rw h

  trim-more : (n size : ℕ) (f : List ℕ) (l : List (Standing S)) → leb (together S (kept_entries S f l)) size ≡ false
      → trimmed S (suc n) size f l ≡ trimmed S n size f (drop_oldest S l)
  unfolding trimmed
  trim-more n size f l h = rw h

  -- what is left is the longest run of entries, newest first, that fits
  pub entries-trimmed : (n size : ℕ) (f : List ℕ) (l : List (Standing S)) → length (kept_entries S f l) ≤ n
      → reverse (kept_entries S f (trimmed S n size f l)) ≡ fitting_run size (reverse (kept_entries S f l))
  entries-trimmed zero size f l h = unfold trimmed in none_left size (kept_entries S f l) h
  entries-trimmed (suc n) size f l h =
      let es = kept_entries S f l in
      ⊎_elim
      (λ yes.
      let fits : length (history_bytes (reverse es)) ≤ size = omega (arith, leb-true (together S es) size yes, together-reverse S es) in
      rw (trim-stop n size f l yes) (sym (kept-all size (reverse es) fits)))
      (λ no.
      let d = entries-oldest f l in
      let short : length (kept_entries S f (drop_oldest S l)) ≤ n = rw d (length-tail es n h) in
      rw (trim-more n size f l no)
      (entries-trimmed n size f (drop_oldest S l) short
      ∙ ap (λ (k : List Entry). fitting_run size (reverse k)) d
      ∙ sym (kept-tail S size es (leb-false (together S es) size no))))
      (known (leb (together S es) size))

  -- at most one entry an edit
  pub entries-many : (f : List ℕ) (l : List (Standing S)) → length (kept_entries S f l) ≤ length l
  unfolding kept_entries
  entries-many f [] = omega arith
  entries-many f (x ∷ l) =
      let g = S.applied x.made f in
      entries_by x.kept (entry_of f g) (kept_entries S g l) (length l) (entries-many g l)
