-- Laws of the history: entries and the runs of entries that are kept, out of their bytes and back.
use Prim.Native.Nat.{ℕ, zero, suc, ◌+◌, ◌*◌, ◌-◌, ◌≤◌, ◌<◌}
use mathlib.Core.Path.{◌≡◌, refl, ap, sym, ◌∙◌}
use mathlib.Core.Bool.{Bool, true, false, cond}
use mathlib.Core.Logic.{⊎_elim}
use mathlib.Core.List.{List, [], ◌∷◌, ◌++◌, append_assoc, append-nil}
use native.Mathlib.Omega.{arith}
use lib.ListN.{length, take, drop, length-append, length-drop, take-append-drop}
use lib.Seq.{drop-drop, drop-append_seam, drop-append-add, take-append_seam}
use lib.Dec.{leb}
use borrow.Author.Tests.{le-leb, lt-leb, leb-true}
use Rattle.fields.specs.Bytes.{part}
use Rattle.fields.proofs.Laws.{AllBytes, bytes-nil, bytes_drop, bytes-part, bytes-append, part_at, length_part}
use Rattle.varint.specs.Number.{number_bytes, number_at, found}
use Rattle.journal.specs.Entry.{Entry, entry_bytes, entry_size, history_bytes, Front, front, none, with_old, with_put, with_place}
use Rattle.journal.specs.Entry.{front_of, rest_of, Entries, whole, broken, before, entries_up_to, entries_of}
use Rattle.journal.specs.History.{fitting_run, recorded}
use Rattle.varint.specs.declared.Number.{Number}
use Rattle.std.specs.Prelude.{Option, Some, None}
use Rattle.varint.proofs.Laws.{below_or, number-returns, number-inside, number-canonical, number_short, bytes-number}

-- ---- one entry

-- numbers within their rule, old bytes that are bytes
pub record ValidEntry (e : Entry) : Type 0 where
  pub valid-place : e.place ≤ 1_048_576
  pub valid-put : e.put ≤ 1_048_576
  pub valid-taken : length e.old ≤ 1_048_576
  pub valid-bytes : AllBytes e.old

abbrev pub AllValid : List Entry → Type 0
AllValid [] = Unit
AllValid (e ∷ es) = ValidEntry e × AllValid es

pub size-parts : (e : Entry)
    → entry_size e
    ≡ length (number_bytes e.place)
    + (length (number_bytes e.put) + (length (number_bytes (length e.old)) + length e.old))
unfolding entry_size entry_bytes
size-parts e = simp length-append

pub size-least : (e : Entry) → 3 ≤ entry_size e
size-least e =
    omega (
      arith,
      size-parts e,
      number_short e.place,
      number_short e.put,
      number_short (length e.old),
    )

pub bytes-entry : (e : Entry) → ValidEntry e → AllBytes (entry_bytes e)
unfolding entry_bytes
bytes-entry e g =
    let p = number_bytes e.place in
    let k = number_bytes e.put in
    let m = number_bytes (length e.old) in
    bytes-append p (k ++ (m ++ e.old)) (bytes-number e.place g.valid-place)
    (bytes-append k (m ++ e.old) (bytes-number e.put g.valid-put)
    (bytes-append m e.old (bytes-number (length e.old) g.valid-taken) g.valid-bytes))

-- the front of bytes by its three numbers
pub with-place : (s : List ℕ) (p a : ℕ) → number_at s ≡ found p a → front_of s ≡ with_put p (number_at (drop a s)) (drop a s)
unfolding front_of with_place
with-place s p a e = rw e

pub with-put : (s : List ℕ) (p k b : ℕ) → number_at s ≡ found k b → with_put p (number_at s) s ≡ with_old p k (number_at (drop b s)) (drop b s)
unfolding with_put
with-put s p k b e = rw e

pub with-old : (s : List ℕ) (p k m c : ℕ) → number_at s ≡ found m c → c + m ≤ length s
    → with_old p k (number_at s) s ≡ front (record { place = p; put = k; old = part s c m }) (drop (c + m) s)
unfolding with_old
with-old s p k m c e h = rw (e, le-leb (c + m) (length s) h)

pub with-cut : (s : List ℕ) (p k m c : ℕ) → number_at s ≡ found m c → length s < c + m → with_old p k (number_at s) s ≡ none
unfolding with_old
with-cut s p k m c e h = rw (e, lt-leb (c + m) (length s) h)

-- an entry that was written is read again
pub front-returns : (e : Entry) (s : List ℕ) → ValidEntry e → front_of (entry_bytes e ++ s) ≡ front e s
unfolding entry_bytes
front-returns e s g =
    let np = number_bytes e.place in
    let nk = number_bytes e.put in
    let nm = number_bytes (length e.old) in
    let t = nm ++ (e.old ++ s) in
    let fits : length nm + length e.old ≤ length t = simp length-append (omega arith) in
    let old : part t (length nm) (length e.old) ≡ e.old = part_at nm e.old s (length nm) (length e.old) refl refl in
    let rest : drop (length nm + length e.old) t ≡ s = drop-append-add nm (e.old ++ s) (length e.old) ∙ drop-append_seam e.old s in
    simp append_assoc
    (with-place (np ++ (nk ++ t)) e.place (length np) (number-returns e.place (nk ++ t) g.valid-place)
    ∙ rw (drop-append_seam np (nk ++ t))
    (with-put (nk ++ t) e.place e.put (length nk) (number-returns e.put t g.valid-put)
    ∙ rw (drop-append_seam nk t)
    (with-old t e.place e.put (length e.old) (length nm) (number-returns (length e.old) (e.old ++ s) g.valid-taken) fits
    ∙ rw (old, rest))))

-- what bytes hold that are read as an entry: three numbers of a, b and c bytes, then the old bytes
pub record OldRead (p k : ℕ) (s : List ℕ) (e : Entry) (t : List ℕ) : Type 0 where
  pub c : ℕ
  pub place_is : p ≡ e.place
  pub put_is : k ≡ e.put
  pub taken_at : number_at s ≡ found (length e.old) c
  pub fits : c + length e.old ≤ length s
  pub old-is : part s c (length e.old) ≡ e.old
  pub rest-is : drop (c + length e.old) s ≡ t

pub record PutRead (p : ℕ) (s : List ℕ) (e : Entry) (t : List ℕ) : Type 0 where
  pub b : ℕ
  pub put-at : number_at s ≡ found e.put b
  pub old-read : OldRead p e.put (drop b s) e t

pub record FrontRead (s : List ℕ) (e : Entry) (t : List ℕ) : Type 0 where
  pub a : ℕ
  pub place_at : number_at s ≡ found e.place a
  pub put-read : PutRead e.place (drop a s) e t

no_front : {A : Type 0} (e : Entry) (t : List ℕ) → none ≡ front e t → A
no_front e t f = let z : ◌≡◌ {A = ℕ} 0 1 = cc in absurd (omega arith)

read_fits : (p k : ℕ) (s : List ℕ) (m c : ℕ) (e : Entry) (t : List ℕ) (v : Bool) → number_at s ≡ found m c → leb (c + m) (length s) ≡ v
    → cond v (front (record { place = p; put = k; old = part s c m }) (drop (c + m) s)) none ≡ front e t → OldRead p k s e t
read_fits p k s m c e t true f l g =
    let made : Entry = record { place = p; put = k; old = part s c m } in
    let is : made ≡ e = cc in
    let rest : drop (c + m) s ≡ t = cc in
    let h : c + m ≤ length s = leb-true (c + m) (length s) l in
    let n : length (part s c m) ≡ m = length_part s c m h in
    rw (← is, ← rest) (record {
      c = c;
      place_is = refl;
      put_is = refl;
      taken_at = rw n f;
      fits = rw n h;
      old-is = rw n refl;
      rest-is = rw n refl;
    })
read_fits p k s m c e t false f l g = no_front e t g

read-old : (p k : ℕ) (s : List ℕ) (r : Option Number) (e : Entry) (t : List ℕ) → number_at s ≡ r → with_old p k r s ≡ front e t
    → OldRead p k s e t
unfolding with_old
read-old p k s (Some m) e t f g = read_fits p k s m.value m.size e t (leb (m.size + m.value) (length s)) f refl g
read-old p k s None e t f g = no_front e t g

read-put : (p : ℕ) (s : List ℕ) (r : Option Number) (e : Entry) (t : List ℕ) → number_at s ≡ r → with_put p r s ≡ front e t → PutRead p s e t
unfolding with_put
read-put p s (Some k) e t f g =
    let b = k.size in
    let o : OldRead p k.value (drop b s) e t = read-old p k.value (drop b s) (number_at (drop b s)) e t refl g in
    let i : k.value ≡ e.put = o.put_is in
    record { b = b; put-at = rw i at f; old-read = rw i at o }
read-put p s None e t f g = no_front e t g

read-place : (s : List ℕ) (r : Option Number) (e : Entry) (t : List ℕ) → number_at s ≡ r → with_place r s ≡ front e t → FrontRead s e t
unfolding with_place
read-place s (Some p) e t f g =
    let a = p.size in
    let o : PutRead p.value (drop a s) e t = read-put p.value (drop a s) (number_at (drop a s)) e t refl g in
    let i : p.value ≡ e.place = o.old-read.place_is in
    record { a = a; place_at = rw i at f; put-read = rw i at o }
read-place s None e t f g = no_front e t g

pub front_read : (s : List ℕ) (e : Entry) (t : List ℕ) → front_of s ≡ front e t → FrontRead s e t
unfolding front_of
front_read s e t g = read-place s (number_at s) e t refl g

-- an entry takes at least three bytes of what it is read from, whatever the elements are
pub front-shorter : (s : List ℕ) (e : Entry) (t : List ℕ) → front_of s ≡ front e t → 3 + length t ≤ length s
front-shorter s e t g =
    let f = front_read s e t g in
    let u = f.put-read in
    let o = u.old-read in
    omega (
      arith,
      number-inside s e.place f.a f.place_at,
      number-inside (drop f.a s) e.put u.b u.put-at,
      number-inside (drop u.b (drop f.a s)) (length e.old) o.c o.taken_at,
      length-drop f.a s,
      length-drop u.b (drop f.a s),
      length-drop (o.c + length e.old) (drop u.b (drop f.a s)),
      ap length o.rest-is,
      o.fits,
    )

number-front : (s : List ℕ) (x n : ℕ) → AllBytes s → number_at s ≡ found x n → s ≡ number_bytes x ++ drop n s
number-front s x n h e =
    sym (take-append-drop n s) ∙ ap (λ (l : List ℕ). l ++ drop n s) (number-canonical s x n h e).0

-- bytes that are read as an entry are the bytes of that entry
pub front-canonical : (s : List ℕ) (e : Entry) (t : List ℕ) → AllBytes s → front_of s ≡ front e t
    → (s ≡ entry_bytes e ++ t) × ValidEntry e × AllBytes t
unfolding entry_bytes
front-canonical s e t h g =
    let f = front_read s e t g in
    let u = f.put-read in
    let o = u.old-read in
    let s₁ = drop f.a s in
    let s₂ = drop u.b s₁ in
    let h₁ : AllBytes s₁ = bytes_drop f.a s h in
    let h₂ : AllBytes s₂ = bytes_drop u.b s₁ h₁ in
    let p = number-front s e.place f.a h f.place_at in
    let k = number-front s₁ e.put u.b h₁ u.put-at in
    let m = number-front s₂ (length e.old) o.c h₂ o.taken_at in
    let d : drop o.c s₂ ≡ e.old ++ t =
    sym (take-append-drop (length e.old) (drop o.c s₂))
    ∙ rw (o.old-is, drop-drop (length e.old) o.c s₂, o.rest-is)
    in
    let all : s ≡ number_bytes e.place ++ (number_bytes e.put ++ (number_bytes (length e.old) ++ (e.old ++ t))) = cc in
    let valid : ValidEntry e =
    record {
      valid-place = (number-inside s e.place f.a f.place_at).1;
      valid-put = (number-inside s₁ e.put u.b u.put-at).1;
      valid-taken = (number-inside s₂ (length e.old) o.c o.taken_at).1;
      valid-bytes = rw o.old-is at (bytes-part s₂ o.c (length e.old) h₂);
    }
    in
    (all ∙ simp append_assoc, valid, rw o.rest-is at (bytes_drop (o.c + length e.old) s₂ h₂))

no-cons : {A : Type 0} (e : Entry) (es : List Entry) → [] ≡ e ∷ es → A
no-cons e es f = let z : ◌≡◌ {A = ℕ} 0 1 = cc in absurd (omega arith)

-- ---- whole entries

front_rest : (f : Front) (n : ℕ) → ((e : Entry) (t : List ℕ) → f ≡ front e t → length t ≤ n) → length (rest_of f) ≤ n
unfolding rest_of
front_rest (front e t) n h = h e t refl
front_rest none n h = omega arith

rest-shorter : (b : ℕ) (s : List ℕ) → length (rest_of (front_of (b ∷ s))) ≤ length s
rest-shorter b s =
    front_rest (front_of (b ∷ s)) (length s) (λ e t f. omega (arith, front-shorter (b ∷ s) e t f))

-- as many iterations as there are bytes are enough
pub steps-enough : (m n : ℕ) (s : List ℕ) → length s ≤ m → length s ≤ n → entries_up_to m s ≡ entries_up_to n s
unfolding entries_up_to
steps-enough zero zero s h g = refl
steps-enough zero (suc n) [] h g = refl
steps-enough zero (suc n) (b ∷ s) h g = absurd (omega arith)
steps-enough (suc m) zero [] h g = refl
steps-enough (suc m) zero (b ∷ s) h g = absurd (omega arith)
steps-enough (suc m) (suc n) [] h g = refl
steps-enough (suc m) (suc n) (b ∷ s) h g =
    let r = rest_of (front_of (b ∷ s)) in
    let l : length r ≤ length s = rest-shorter b s in
    ap (λ (t : Entries). before (front_of (b ∷ s)) t) (steps-enough m n r (omega arith) (omega arith))

pub entries_none : entries_of [] ≡ whole []
unfolding entries_of entries_up_to
entries_none = refl

-- one entry, then the others
pub entries-step : (s : List ℕ) → 0 < length s → entries_of s ≡ before (front_of s) (entries_of (rest_of (front_of s)))
unfolding entries_of entries_up_to
entries-step [] h = absurd (omega arith)
entries-step (b ∷ s) h =
    let r = rest_of (front_of (b ∷ s)) in
    let l : length r ≤ length s = rest-shorter b s in
    ap (λ (t : Entries). before (front_of (b ∷ s)) t) (steps-enough (length s) (length r) r l (omega arith))

pub entries_next : (s : List ℕ) (e : Entry) (t : List ℕ) → front_of s ≡ front e t → entries_of s ≡ before (front e t) (entries_of t)
unfolding rest_of
entries_next s e t f = entries-step s (omega (arith, front-shorter s e t f)) ∙ rw f

pub entries-stop : (s : List ℕ) → 0 < length s → front_of s ≡ none → entries_of s ≡ broken
unfolding before
entries-stop s h f = entries-step s h ∙ rw f

-- a history that was written is read again
pub entries-return : (es : List Entry) → AllValid es → entries_of (history_bytes es) ≡ whole es
unfolding history_bytes before
entries-return [] g = entries_none
entries-return (e ∷ es) g =
    entries_next (entry_bytes e ++ history_bytes es) e (history_bytes es) (front-returns e (history_bytes es) g.0)
    ∙ rw (entries-return es g.1)

not-whole : {A : Type 0} (es : List Entry) → broken ≡ whole es → A
not-whole es f = let z : ◌≡◌ {A = ℕ} 0 1 = cc in absurd (omega arith)

-- bytes that are read as a history are the bytes of that history
canonical-after : (s : List ℕ) (f : Front) (r : Entries) (es : List Entry) → ((e : Entry) (t : List ℕ) → f ≡ front e t
    → (s ≡ entry_bytes e ++ t) × ValidEntry e) → ((es₁ : List Entry) → r ≡ whole es₁ → (history_bytes es₁ ≡ rest_of f) × AllValid es₁)
    → before f r ≡ whole es → (history_bytes es ≡ s) × AllValid es
unfolding before rest_of history_bytes
canonical-after s (front e t) (whole es₁) es h i g =
    let q : e ∷ es₁ ≡ es = cc in
    let a = h e t refl in
    let b = i es₁ refl in
    rw (← q) (rw b.0 (sym a.0), (a.1, b.1))
canonical-after s (front e t) broken es h i g = not-whole es g
canonical-after s none r es h i g = not-whole es g

bytes_rest : (f : Front) → ((e : Entry) (t : List ℕ) → f ≡ front e t → AllBytes t) → AllBytes (rest_of f)
unfolding rest_of
bytes_rest (front e t) h = h e t refl
bytes_rest none h = bytes-nil

canonical-up-to : (n : ℕ) (s : List ℕ) (es : List Entry) → AllBytes s → entries_up_to n s ≡ whole es → (history_bytes es ≡ s) × AllValid es
unfolding entries_up_to history_bytes
canonical-up-to zero [] es h f = let q : [] ≡ es = cc in rw (← q) (refl, tt)
canonical-up-to zero (b ∷ s) es h f = not-whole es f
canonical-up-to (suc n) [] es h f = let q : [] ≡ es = cc in rw (← q) (refl, tt)
canonical-up-to (suc n) (b ∷ s) es h f =
    let u = front_of (b ∷ s) in
    let g : AllBytes (rest_of u) = bytes_rest u (λ e t i. (front-canonical (b ∷ s) e t h i).2) in
    canonical-after (b ∷ s) u (entries_up_to n (rest_of u)) es
    (λ e t i. let a = front-canonical (b ∷ s) e t h i in (a.0, a.1))
    (λ es₁ i. canonical-up-to n (rest_of u) es₁ g i) f

pub entries-canonical : (s : List ℕ) (es : List Entry) → AllBytes s → entries_of s ≡ whole es → (history_bytes es ≡ s) × AllValid es
unfolding entries_of
entries-canonical s es h f = canonical-up-to (length s) s es h f

-- ---- the bytes of a history

pub history-append : (a b : List Entry) → history_bytes (a ++ b) ≡ history_bytes a ++ history_bytes b
unfolding history_bytes
history-append [] b = refl
history-append (e ∷ a) b = rw (history-append a b) (sym (append_assoc (entry_bytes e) (history_bytes a) (history_bytes b)))

pub history-size : (e : Entry) (es : List Entry) → length (history_bytes (e ∷ es)) ≡ entry_size e + length (history_bytes es)
unfolding history_bytes entry_size
history-size e es = length-append (entry_bytes e) (history_bytes es)

pub history-sizes : (a b : List Entry) → length (history_bytes (a ++ b)) ≡ length (history_bytes a) + length (history_bytes b)
history-sizes a b = ap length (history-append a b) ∙ length-append (history_bytes a) (history_bytes b)

pub history-none : history_bytes [] ≡ []
unfolding history_bytes
history-none = refl

-- three bytes an entry at least
pub history-least : (es : List Entry) → 3 * length es ≤ length (history_bytes es)
history-least [] = omega arith
history-least (e ∷ es) = omega (arith, history-size e es, size-least e, history-least es)

pub bytes-history : (es : List Entry) → AllValid es → AllBytes (history_bytes es)
unfolding history_bytes
bytes-history [] g = bytes-nil
bytes-history (e ∷ es) g = bytes-append (entry_bytes e) (history_bytes es) (bytes-entry e g.0) (bytes-history es g.1)

pub valid-append : (a b : List Entry) → AllValid a → AllValid b → AllValid (a ++ b)
valid-append [] b ga gb = gb
valid-append (e ∷ a) b ga gb = (ga.0, valid-append a b ga.1 gb)

pub valid-left : (a b : List Entry) → AllValid (a ++ b) → AllValid a
valid-left [] b g = tt
valid-left (e ∷ a) b g = (g.0, valid-left a b g.1)

-- one list of valid entries has these bytes
pub history-one : (a b : List Entry) → AllValid a → AllValid b → history_bytes a ≡ history_bytes b → a ≡ b
history-one a b ga gb e =
    let f : whole a ≡ whole b = sym (entries-return a ga) ∙ ap entries_of e ∙ entries-return b gb in
    cc

-- ---- the run that is kept

pub kept-none : (room : ℕ) → fitting_run room [] ≡ []
unfolding fitting_run
kept-none room = refl

pub kept_more : (room : ℕ) (e : Entry) (es : List Entry) → entry_size e ≤ room → fitting_run room (e ∷ es) ≡ e ∷ fitting_run (room - entry_size e) es
unfolding fitting_run
kept_more room e es h = rw (le-leb (entry_size e) room h)

pub kept-stop : (room : ℕ) (e : Entry) (es : List Entry) → room < entry_size e → fitting_run room (e ∷ es) ≡ []
unfolding fitting_run
kept-stop room e es h = rw (lt-leb (entry_size e) room h)

-- it fits
pub kept-fits : (room : ℕ) (es : List Entry) → length (history_bytes (fitting_run room es)) ≤ room
kept-fits room [] = rw (kept-none room, history-none) (omega arith)
kept-fits room (e ∷ es) =
    ⊎_elim
    (λ no. rw (kept-stop room e es no, history-none) (omega arith))
    (λ yes.
    rw (kept_more room e es yes, history-size e (fitting_run (room - entry_size e) es)) (omega (arith, kept-fits (room - entry_size e) es)))
    (below_or room (entry_size e))

-- a run that fits is kept, and what follows it gets the room that is left
pub kept-front : (room : ℕ) (a b : List Entry) → length (history_bytes a) ≤ room
    → fitting_run room (a ++ b) ≡ a ++ fitting_run (room - length (history_bytes a)) b
kept-front room [] b h =
    let z : room ≡ room - length (history_bytes []) = rw history-none (omega arith) in
    ap (λ (n : ℕ). fitting_run n b) z
kept-front room (e ∷ a) b h =
    let g : entry_size e + length (history_bytes a) ≤ room = rw (history-size e a) at h in
    let r : room - entry_size e - length (history_bytes a) ≡ room - (entry_size e + length (history_bytes a)) = omega arith in
    rw (kept_more room e (a ++ b) (omega arith), kept-front (room - entry_size e) a b (omega arith), history-size e a, r)

-- all of it where all of it fits, exactly too
pub kept-all : (room : ℕ) (es : List Entry) → length (history_bytes es) ≤ room → fitting_run room es ≡ es
kept-all room es h =
    ap (λ (l : List Entry). fitting_run room l) (sym (append-nil es))
    ∙ kept-front room es [] h
    ∙ rw (kept-none (room - length (history_bytes es)), append-nil es)

-- it is the front of the list
pub kept-rest : (room : ℕ) (es : List Entry) → fitting_run room es ++ drop (length (fitting_run room es)) es ≡ es
kept-rest room [] = rw (kept-none room)
kept-rest room (e ∷ es) =
    ⊎_elim
    (λ no. rw (kept-stop room e es no))
    (λ yes. rw (kept_more room e es yes) (ap (λ (l : List Entry). e ∷ l) (kept-rest (room - entry_size e) es)))
    (below_or room (entry_size e))

-- it is the longest: the next entry does not fit
pub kept_next : (room : ℕ) (es : List Entry) (e : Entry) (rest : List Entry) → drop (length (fitting_run room es)) es ≡ e ∷ rest
    → room < length (history_bytes (fitting_run room es)) + entry_size e
kept_next room [] e rest f = no-cons e rest (rw (kept-none room) at f)
kept_next room (d ∷ es) e rest f =
    ⊎_elim
    (λ no.
    let g : d ∷ es ≡ e ∷ rest = rw (kept-stop room d es no) at f in
    let q : d ≡ e = cc in
    rw (kept-stop room d es no, history-none, ← q) (omega arith))
    (λ yes.
    let g : drop (length (fitting_run (room - entry_size d) es)) es ≡ e ∷ rest = rw (kept_more room d es yes) at f in
    rw (kept_more room d es yes, history-size d (fitting_run (room - entry_size d) es))
    (omega (arith, kept_next (room - entry_size d) es e rest g)))
    (below_or room (entry_size d))

-- no longer run fits
pub kept-longest : (room : ℕ) (a b : List Entry) → length (history_bytes a) ≤ room → length a ≤ length (fitting_run room (a ++ b))
kept-longest room a b h =
    let k = fitting_run (room - length (history_bytes a)) b in
    rw (kept-front room a b h, length-append a k) (omega arith)

-- its bytes are the front of the bytes
pub kept-bytes : (room : ℕ) (es : List Entry)
    → history_bytes (fitting_run room es) ≡ take (length (history_bytes (fitting_run room es))) (history_bytes es)
kept-bytes room es =
    let k = fitting_run room es in
    let r = drop (length k) es in
    let f : history_bytes es ≡ history_bytes k ++ history_bytes r =
    ap (λ (l : List Entry). history_bytes l) (sym (kept-rest room es)) ∙ history-append k r
    in
    sym (ap (λ (l : List ℕ). take (length (history_bytes k)) l) f ∙ take-append_seam (history_bytes k) (history_bytes r))

pub kept-valid : (room : ℕ) (es : List Entry) → AllValid es → AllValid (fitting_run room es)
kept-valid room es g =
    valid-left (fitting_run room es) (drop (length (fitting_run room es)) es) (rw (kept-rest room es) g)

-- a smaller room of a larger one
pub kept-kept : (small large : ℕ) (es : List Entry) → small ≤ large → fitting_run small (fitting_run large es) ≡ fitting_run small es
kept-kept small large [] h = rw (kept-none large)
kept-kept small large (e ∷ es) h =
    ⊎_elim
    (λ no.
    ⊎_elim
    (λ none-fits. rw (kept-stop large e es none-fits, kept-stop small e es no, kept-none small))
    (λ fits. rw (kept_more large e es fits, kept-stop small e (fitting_run (large - entry_size e) es) no, kept-stop small e es no))
    (below_or large (entry_size e)))
    (λ yes.
    let fits : entry_size e ≤ large = omega arith in
    let left : small - entry_size e ≤ large - entry_size e = omega arith in
    rw (
      kept_more large e es fits,
      kept_more small e (fitting_run (large - entry_size e) es) yes,
      kept_more small e es yes,
      kept-kept (small - entry_size e) (large - entry_size e) es left,
    ))
    (below_or small (entry_size e))

-- the oldest entry of a list that exceeds the room is not kept
pub kept-oldest : (room : ℕ) (es : List Entry) (e : Entry) → room < length (history_bytes (es ++ (e ∷ [])))
    → fitting_run room (es ++ (e ∷ [])) ≡ fitting_run room es
kept-oldest room [] e h =
    let g : room < entry_size e = omega (arith, history-size e [], ap length history-none) in
    kept-stop room e [] g ∙ sym (kept-none room)
kept-oldest room (d ∷ es) e h =
    let g : room < entry_size d + length (history_bytes (es ++ (e ∷ []))) = rw (history-size d (es ++ (e ∷ []))) at h in
    ⊎_elim
    (λ no. rw (kept-stop room d (es ++ (e ∷ [])) no, kept-stop room d es no))
    (λ yes.
    rw (
      kept_more room d (es ++ (e ∷ [])) yes,
      kept_more room d es yes,
      kept-oldest (room - entry_size d) es e (omega arith),
    ))
    (below_or room (entry_size d))

-- ---- the history after an edit

pub recorded-kept : (size : ℕ) (e : Entry) (es : List Entry) → entry_size e ≤ size → recorded size e es ≡ fitting_run size (e ∷ es)
unfolding recorded
recorded-kept size e es h = sym (kept_more size e es h)

pub recorded-fits : (size : ℕ) (e : Entry) (es : List Entry) → entry_size e ≤ size → length (history_bytes (recorded size e es)) ≤ size
recorded-fits size e es h = rw (recorded-kept size e es h) (kept-fits size (e ∷ es))

pub recorded-valid : (size : ℕ) (e : Entry) (es : List Entry) → ValidEntry e → AllValid es → AllValid (recorded size e es)
unfolding recorded
recorded-valid size e es g gs = (g, kept-valid (size - entry_size e) es gs)

pub recorded-bytes : (size : ℕ) (e : Entry) (es : List Entry)
    → history_bytes (recorded size e es) ≡ entry_bytes e ++ history_bytes (fitting_run (size - entry_size e) es)
unfolding recorded history_bytes
recorded-bytes size e es = refl

-- ---- taking the first entry back

pub history-first : (e : Entry) (es : List Entry) → ValidEntry e → front_of (history_bytes (e ∷ es)) ≡ front e (history_bytes es)
unfolding history_bytes
history-first e es g = front-returns e (history_bytes es) g

pub history-drop : (e : Entry) (es : List Entry) → drop (entry_size e) (history_bytes (e ∷ es)) ≡ history_bytes es
unfolding history_bytes entry_size
history-drop e es = drop-append_seam (entry_bytes e) (history_bytes es)
