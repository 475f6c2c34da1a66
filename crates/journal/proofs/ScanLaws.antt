-- Laws for the code: an entry at a place of a list, and the scans of a history, iteration by iteration.
use Prim.Native.Nat.{ℕ, suc, ◌+◌, ◌-◌, ◌≤◌, ◌<◌}
use mathlib.Core.Path.{◌≡◌, refl, ap, sym, ◌∙◌}
use mathlib.Core.List.{List, ◌∷◌, ◌++◌}
use native.Mathlib.Omega.{arith}
use native.Mathlib.Nat.{add_assoc, zero-add}
use lib.ListN.{length, drop, length-append, length-drop, drop_of_length-le}
use lib.Seq.{drop-drop}
use Rattle.fields.specs.Bytes.{part}
use Rattle.fields.proofs.Laws.{AllBytes, bytes_drop, length_part}
use Rattle.varint.specs.Number.{number_at, found}
use Rattle.journal.specs.Entry.{Entry, entry_bytes, entry_size, history_bytes, Front, front, none, with_old, with_put, with_place}
use Rattle.journal.specs.Entry.{front_of, Entries, whole, broken, before, entries_of}
use Rattle.journal.specs.History.{fitting_run}
use Rattle.journal.specs.History.{number_of_entries}
use Rattle.journal.specs.Scan.{head_of, run_of}
use Rattle.varint.specs.declared.Number.{Number}
use Rattle.std.specs.Prelude.{Some, None, Option}
use Rattle.journal.specs.declared.scan.EntryHead.{EntryHead}
use Rattle.journal.specs.declared.scan.Run.{Run}
use Rattle.varint.proofs.Laws.{number-inside}
use Rattle.journal.proofs.Laws.{with-place, with-put, with-old, with-cut}
use Rattle.journal.proofs.Laws.{front_read, front-canonical, entries_none, entries_next, entries-stop}
use Rattle.journal.proofs.Laws.{history-none, history-size, kept-none, kept_more, kept-stop, AllValid, ValidEntry, entries-return, history-first}

-- ---- the entry at a place

-- at k stands the number x, in n bytes; as a record, from which antt finds them
pub record NumberHere (s : List ℕ) (k x n : ℕ) : Type 0 where
  pub here : number_at (drop k s) ≡ found x n

pub number-here : (s : List ℕ) (k : ℕ) (r : Number) → Some r ≡ number_at (drop k s) → NumberHere s k r.value r.size
number-here s k r e = record { here = sym e }

pub here-inside : {s : List ℕ} {k x n : ℕ} → NumberHere s k x n → k + n ≤ length s
here-inside {s} {k} {x} {n} h = omega (arith, number-inside (drop k s) x n h.here, length-drop k s)

head-none : (f : Front) (n : ℕ) → f ≡ none → None ≡ head_of f n
unfolding head_of
head-none f n e = rw e

pub no_place : (s : List ℕ) (k : ℕ) → None ≡ number_at (drop k s)
    → None ≡ head_of (front_of (drop k s)) (length s)
unfolding front_of with_place
no_place s k e = head-none (front_of (drop k s)) (length s) (rw (sym e))

pub no-put : {s : List ℕ} {k p a : ℕ} → NumberHere s k p a → None ≡ number_at (drop (k + a) s)
    → None ≡ head_of (front_of (drop k s)) (length s)
unfolding with_put
no-put {s} {k} {p} {a} h e =
    head-none (front_of (drop k s)) (length s) (with-place (drop k s) p a h.here ∙ rw (drop-drop a k s, sym e))

-- the first two numbers
front-two : {s : List ℕ} {k p a q b : ℕ} → NumberHere s k p a → NumberHere s (k + a) q b
    → front_of (drop k s) ≡ with_old p q (number_at (drop (k + a + b) s)) (drop (k + a + b) s)
front-two {s} {k} {p} {a} {q} {b} h i =
    with-place (drop k s) p a h.here
    ∙ rw (drop-drop a k s) (with-put (drop (k + a) s) p q b i.here ∙ rw (drop-drop b (k + a) s))

pub no-taken : {s : List ℕ} {k p a q b : ℕ} → NumberHere s k p a → NumberHere s (k + a) q b
    → None ≡ number_at (drop (k + a + b) s) → None ≡ head_of (front_of (drop k s)) (length s)
unfolding with_old
no-taken {s} {k} h i e = head-none (front_of (drop k s)) (length s) (front-two h i ∙ rw (sym e))

pub old-cut : {s : List ℕ} {k p a q b m c : ℕ} → NumberHere s k p a → NumberHere s (k + a) q b → NumberHere s (k + a + b) m c
    → length s - (k + a + b + c) < m → None ≡ head_of (front_of (drop k s)) (length s)
old-cut {s} {k} {p} {a} {q} {b} {m} {c} h i j g =
    head-none (front_of (drop k s)) (length s)
    (front-two h i
    ∙ with-cut (drop (k + a + b) s) p q m c j.here (omega (arith, length-drop (k + a + b) s, here-inside j)))

pub old-whole : {s : List ℕ} {k p a q b m c : ℕ} → NumberHere s k p a → NumberHere s (k + a) q b → NumberHere s (k + a + b) m c
    → m ≤ length s - (k + a + b + c)
    → Some (record { place = p; put = q; taken = m; body = k + a + b + c; next = k + a + b + c + m })
    ≡ head_of (front_of (drop k s)) (length s)
unfolding head_of
old-whole {s} {k} {p} {a} {q} {b} {m} {c} h i j g =
    let t = drop (k + a + b) s in
    let inside : k + a + b + c ≤ length s = here-inside j in
    let l : length t ≡ length s - (k + a + b) = length-drop (k + a + b) s in
    let fits : c + m ≤ length t = omega arith in
    let taken : length (part t c m) ≡ m = length_part t c m fits in
    let next : length s - length (drop (c + m) t) ≡ k + a + b + c + m = omega (arith, length-drop (c + m) t) in
    let body : k + a + b + c + m - m ≡ k + a + b + c = omega arith in
    rw (front-two h i, with-old t p q m c j.here fits, next, taken, body)

-- what a head that is read says of the entry at k
pub record HeadRead (s : List ℕ) (k : ℕ) (h : EntryHead) : Type 0 where
  pub entry : Entry
  pub front-is : front_of (drop k s) ≡ front entry (drop h.next s)
  pub place_is : h.place ≡ entry.place
  pub put_is : h.put ≡ entry.put
  pub taken_is : h.taken ≡ length entry.old
  pub old-is : part s h.body h.taken ≡ entry.old
  pub next-is : h.next ≡ h.body + h.taken
  pub after : k + 3 ≤ h.body
  pub inside : h.next ≤ length s

head-of-front : (s : List ℕ) (k : ℕ) (e : Entry) (t : List ℕ) (h : EntryHead) → front_of (drop k s) ≡ front e t
    → head_of (front e t) (length s) ≡ Some h → HeadRead s k h
unfolding head_of
head-of-front s k e t h f g =
    let made : EntryHead =
    record {
      place = e.place;
      put = e.put;
      taken = length e.old;
      body = length s - length t - length e.old;
      next = length s - length t;
    }
    in
    let is : made ≡ h = cc in
    let r = front_read (drop k s) e t f in
    let u = r.put-read in
    let o = u.old-read in
    let m = length e.old in
    let s₁ = drop r.a (drop k s) in
    let s₂ = drop u.b s₁ in
    let d : s₂ ≡ drop (k + r.a + u.b) s = ap (λ (l : List ℕ). drop u.b l) (drop-drop r.a k s) ∙ drop-drop u.b (k + r.a) s in
    let l : length s₂ ≡ length s - (k + r.a + u.b) = ap length d ∙ length-drop (k + r.a + u.b) s in
    let i = number-inside (drop k s) e.place r.a r.place_at in
    let j = number-inside s₁ e.put u.b u.put-at in
    let n = number-inside s₂ m o.c o.taken_at in
    let fits : o.c + m ≤ length s₂ = o.fits in
    let body : length s - length t - m ≡ k + r.a + u.b + o.c = omega (arith, length-drop (o.c + m) s₂, ap length o.rest-is) in
    let next : length s - length t ≡ k + r.a + u.b + o.c + m = omega (arith, length-drop (o.c + m) s₂, ap length o.rest-is) in
    let rest : t ≡ drop (length s - length t) s =
    sym o.rest-is ∙ rw (d, drop-drop (o.c + m) (k + r.a + u.b) s, next, add_assoc (k + r.a + u.b) o.c m)
    in
    let old : part s (length s - length t - m) m ≡ e.old =
    rw (body, ← drop-drop o.c (k + r.a + u.b) s, ← d) o.old-is
    in
    rw (← is) (record {
      entry = e;
      front-is = f ∙ ap (λ (l : List ℕ). front e l) rest;
      place_is = refl;
      put_is = refl;
      taken_is = refl;
      old-is = old;
      next-is = omega arith;
      after = omega arith;
      inside = omega arith;
    })

head-by : (s : List ℕ) (k : ℕ) (f : Front) (h : EntryHead) → front_of (drop k s) ≡ f → head_of f (length s) ≡ Some h → HeadRead s k h
head-by s k (front e t) h f g = head-of-front s k e t h f g
head-by s k none h f g =
    let e : None ≡ Some h = unfold head_of in g in
    let z : ◌≡◌ {A = ℕ} 0 1 = cc in
    absurd (omega arith)

pub head_read : (s : List ℕ) (k : ℕ) (h : EntryHead) {r : Option EntryHead} → r ≡ head_of (front_of (drop k s)) (length s) → r ≡ Some h
    → HeadRead s k h
head_read s k h e f = head-by s k (front_of (drop k s)) h refl (sym e ∙ f)

none-by : (f : Front) (n : ℕ) → head_of f n ≡ None → f ≡ none
unfolding head_of
none-by (front e t) n g = let z : ◌≡◌ {A = ℕ} 0 1 = cc in absurd (omega arith)
none-by none n g = refl

pub head_broken : (s : List ℕ) (k n : ℕ) {r : Option EntryHead} → r ≡ head_of (front_of (drop k s)) n → r ≡ None
    → front_of (drop k s) ≡ none
head_broken s k n e f = none-by (front_of (drop k s)) n (sym e ∙ f)

-- the entry's size is what lies between
pub head-size : (s : List ℕ) (k : ℕ) (h : EntryHead) → AllBytes s → (r : HeadRead s k h) → k + entry_size r.entry ≡ h.next
unfolding entry_size
head-size s k h b r =
    let e : drop k s ≡ entry_bytes r.entry ++ drop h.next s =
    (front-canonical (drop k s) r.entry (drop h.next s) (bytes_drop k s b) r.front-is).0
    in
    omega (
      arith,
      ap length e,
      length-append (entry_bytes r.entry) (drop h.next s),
      length-drop k s,
      length-drop h.next s,
      r.after,
      r.next-is,
      r.inside,
    )

-- ---- counting entries, iteration by iteration

-- n entries more
unfoldable pub added : ℕ → Option ℕ → Option ℕ
added n (Some m) = Some (n + m)
added n None = None

added_none : (r : Option ℕ) → r ≡ added 0 r
unfolding added
added_none (Some m) = rw zero-add
added_none None = refl

counted_next : (n : ℕ) (e : Entry) (t : List ℕ) (r : Entries) → added n (number_of_entries (before (front e t) r)) ≡ added (n + 1) (number_of_entries r)
unfolding added number_of_entries before
counted_next n e t (whole es) = let f : n + suc (length es) ≡ n + 1 + length es = omega arith in rw f
counted_next n e t broken = refl

pub counted_start : (s : List ℕ) → number_of_entries (entries_of s) ≡ added 0 (number_of_entries (entries_of (drop 0 s)))
counted_start s = added_none (number_of_entries (entries_of s))

pub counted_step : (s : List ℕ) (k n m : ℕ) (h : EntryHead) (all : Option ℕ) → all ≡ added n (number_of_entries (entries_of (drop k s)))
    → HeadRead s k h → m ≡ n + 1 → all ≡ added m (number_of_entries (entries_of (drop h.next s)))
counted_step s k n m h all e r one =
    let t = drop h.next s in
    e ∙ rw (one, entries_next (drop k s) r.entry t r.front-is) (counted_next n r.entry t (entries_of t))

pub counted_stop : (s : List ℕ) (k n : ℕ) (all : Option ℕ) → all ≡ added n (number_of_entries (entries_of (drop k s))) → k < length s
    → front_of (drop k s) ≡ none → None ≡ all
unfolding added number_of_entries
counted_stop s k n all e h f = sym (e ∙ rw (entries-stop (drop k s) (omega (arith, length-drop k s)) f))

pub counted_end : (s : List ℕ) (k n : ℕ) (all : Option ℕ) → all ≡ added n (number_of_entries (entries_of (drop k s))) → length s ≤ k
    → Some n ≡ all
unfolding added number_of_entries
counted_end s k n all e h =
    let z : n + 0 ≡ n = omega arith in
    sym (e ∙ rw (drop_of_length-le s h, entries_none, z))

-- ---- the run that fits, iteration by iteration

-- k bytes and n entries are passed
unfoldable pub run_from : ℕ → ℕ → ℕ → Entries → Run
run_from k n space (whole es) =
    record { bytes = k + length (history_bytes (fitting_run (space - k) es)); entries = n + length (fitting_run (space - k) es) }
run_from k n space broken = record { bytes = 0; entries = 0 }

run-zero : (space : ℕ) (r : Entries) → run_of r space ≡ run_from 0 0 space r
unfolding run_of run_from
run-zero space (whole es) =
    let z : space - 0 ≡ space = omega arith in
    rw (z, zero-add (length (history_bytes (fitting_run space es))), zero-add (length (fitting_run space es)))
run-zero space broken = refl

run-next : (k n space next : ℕ) (e : Entry) (t : List ℕ) (r : Entries) → k + entry_size e ≡ next → next ≤ space
    → run_from k n space (before (front e t) r) ≡ run_from next (n + 1) space r
unfolding run_from before
run-next k n space next e t (whole es) h g =
    let left : space - k - entry_size e ≡ space - next = omega arith in
    let f : fitting_run (space - k) (e ∷ es) ≡ e ∷ fitting_run (space - next) es = kept_more (space - k) e es (omega arith) ∙ rw left in
    let l = fitting_run (space - next) es in
    let b : k + length (history_bytes (e ∷ l)) ≡ next + length (history_bytes l) = omega (arith, history-size e l) in
    let c : n + suc (length l) ≡ n + 1 + length l = omega arith in
    rw (f, b, c)
run-next k n space next e t broken h g = refl

run-full : (k n space next : ℕ) (e : Entry) (t : List ℕ) (r : Entries) → k + entry_size e ≡ next → space < next → k ≤ space
    → (before (front e t) r ≡ broken → ⊥) → record { bytes = k; entries = n } ≡ run_from k n space (before (front e t) r)
unfolding run_from before
run-full k n space next e t (whole es) h g i u =
    let b : k ≡ k + 0 = omega arith in
    let c : n ≡ n + 0 = omega arith in
    rw (kept-stop (space - k) e es (omega arith), history-none, ← b, ← c)
run-full k n space next e t broken h g i u = absurd (u refl)

not-broken : (e : Entry) (t : List ℕ) (r : Entries) → (before (front e t) r ≡ broken → ⊥) → r ≡ broken → ⊥
unfolding before
not-broken e t r u z = u (rw z)

-- so far: the run of all is what is passed and then the run of the rest, which is whole entries
pub record Fitting (s : List ℕ) (space k n : ℕ) : Type 0 where
  pub same : run_of (entries_of s) space ≡ run_from k n space (entries_of (drop k s))
  pub sound : entries_of (drop k s) ≡ broken → ⊥

pub fitting-start : (s : List ℕ) (space : ℕ) → (number_of_entries (entries_of s) ≡ None → ⊥) → Fitting s space 0 0
unfolding number_of_entries
fitting-start s space u = record { same = run-zero space (entries_of s); sound = λ e. u (rw e) }

pub fitting-step : {s : List ℕ} {space k n : ℕ} {h : EntryHead} → AllBytes s → Fitting s space k n → HeadRead s k h → h.next ≤ space
    → Fitting s space h.next (n + 1)
fitting-step {s} {space} {k} {n} {h} b f r g =
    let t = drop h.next s in
    let e = entries_next (drop k s) r.entry t r.front-is in
    let u : before (front r.entry t) (entries_of t) ≡ broken → ⊥ = λ z. f.sound (e ∙ z) in
    record {
      same = f.same ∙ rw e (run-next k n space h.next r.entry t (entries_of t) (head-size s k h b r) g);
      sound = not-broken r.entry t (entries_of t) u;
    }

pub fitting-full : {s : List ℕ} {space k n : ℕ} {h : EntryHead} → AllBytes s → Fitting s space k n → HeadRead s k h → k ≤ space
    → space < h.next → record { bytes = k; entries = n } ≡ run_of (entries_of s) space
fitting-full {s} {space} {k} {n} {h} b f r i g =
    let t = drop h.next s in
    let e = entries_next (drop k s) r.entry t r.front-is in
    let u : before (front r.entry t) (entries_of t) ≡ broken → ⊥ = λ z. f.sound (e ∙ z) in
    run-full k n space h.next r.entry t (entries_of t) (head-size s k h b r) g i u ∙ sym (f.same ∙ rw e refl)

pub fitting-end : {s : List ℕ} {space k n : ℕ} → Fitting s space k n → length s ≤ k → record { bytes = k; entries = n } ≡ run_of (entries_of s) space
unfolding run_from
fitting-end {s} {space} {k} {n} f h =
    let b : k + 0 ≡ k = omega arith in
    let c : n + 0 ≡ n = omega arith in
    sym (f.same ∙ rw (drop_of_length-le s h, entries_none, kept-none (space - k), history-none, b, c))

pub fitting-whole : {A : Type 0} {s : List ℕ} {space k n : ℕ} → Fitting s space k n → k < length s → front_of (drop k s) ≡ none → A
fitting-whole {A} {s} {space} {k} f h g = absurd (f.sound (entries-stop (drop k s) (omega (arith, length-drop k s)) g))

-- ---- what the scans say of a history

-- n whole entries
pub record Held (s : List ℕ) (n : ℕ) : Type 0 where
  pub held : List Entry
  pub held-is : entries_of s ≡ whole held
  pub many : length held ≡ n

held_by : (s : List ℕ) (n : ℕ) (r : Entries) → entries_of s ≡ r → number_of_entries r ≡ Some n → Held s n
unfolding number_of_entries
held_by s n (whole es) e f = record { held = es; held-is = e; many = cc }
held_by s n broken e f = let z : ◌≡◌ {A = ℕ} 0 1 = cc in absurd (omega arith)

pub counted-held : (s : List ℕ) (n : ℕ) → number_of_entries (entries_of s) ≡ Some n → Held s n
counted-held s n f = held_by s n (entries_of s) refl f

pub counted-history : (es : List Entry) → AllValid es → number_of_entries (entries_of (history_bytes es)) ≡ Some (length es)
unfolding number_of_entries
counted-history es g = rw (entries-return es g)

pub run-history : (es : List Entry) (space : ℕ) → AllValid es
    → run_of (entries_of (history_bytes es)) space
    ≡ record { bytes = length (history_bytes (fitting_run space es)); entries = length (fitting_run space es) }
unfolding run_of
run-history es space g = rw (entries-return es g)

-- the head of a history's first entry
pub head_first : (e : Entry) (es : List Entry) → ValidEntry e
    → head_of (front_of (history_bytes (e ∷ es))) (length (history_bytes (e ∷ es)))
    ≡ Some (record {
      place = e.place;
      put = e.put;
      taken = length e.old;
      body = entry_size e - length e.old;
      next = entry_size e;
    })
unfolding head_of
head_first e es g =
    let n : length (history_bytes (e ∷ es)) - length (history_bytes es) ≡ entry_size e = omega (arith, history-size e es) in
    rw (history-first e es g, n)
