-- Laws of an edit's entry put first: its numbers, its bytes, and the run of earlier entries behind it.
use Prim.Native.Nat.{ℕ, ◌+◌, ◌*◌, ◌-◌, ◌≤◌, max}
use mathlib.Core.Path.{◌≡◌, refl, ap, sym, ◌∙◌}
use mathlib.Core.List.{List, ◌∷◌, ◌++◌, append_assoc}
use native.Mathlib.Omega.{arith}
use lib.ListN.{length, take, length-append, length-take}
use lib.Seq.{take-take}
use Rattle.fields.specs.Bytes.{part, over, zeros}
use Rattle.fields.proofs.Laws.{AllBytes, bytes_take, length_part, length-zeros, over-over, over_zero}
use Rattle.affixes.specs.Common.{common_prefix}
use Rattle.affixes.proofs.Laws.{common_prefix-left}
use Rattle.buffers.proofs.Laws.{over-ahead}
use Rattle.varint.specs.Number.{number_bytes}
use Rattle.journal.specs.Entry.{Entry, entry_bytes, entry_size, history_bytes, Entries, whole, broken, entries_of}
use Rattle.journal.specs.History.{fitting_run, recorded}
use Rattle.journal.specs.History.{number_of_entries}
use Rattle.journal.specs.Scan.{run_of}
use Rattle.journal.specs.Change.{suffix_length, entry_of}
use Rattle.journal.specs.Machine.{holding}
use Rattle.journal.specs.Span.{span_of, entry_from, Sound, span_size, recorded_in, Reserved}
use Rattle.journal.specs.declared.recording.Span.{Span}
use Rattle.journal.specs.declared.scan.Run.{Run}
use Rattle.varint.proofs.Laws.{number_short}
use Rattle.journal.proofs.Laws.{size-parts, entries-canonical, kept-bytes, kept-fits, history-least, history-size}
use Rattle.journal.proofs.ChangeLaws.{tail-left, length_taken}
use Rattle.std.specs.Prelude.{None}

-- ---- a change's numbers

-- each takes at most three bytes
pub span-short : (s : Span)
    → ((length (number_bytes s.place) ≤ 3) × (length (number_bytes s.put) ≤ 3)) × (length (number_bytes s.taken) ≤ 3)
span-short s = (((number_short s.place).1, (number_short s.put).1), (number_short s.taken).1)

pub span-size : (e : Entry) → span_size (span_of e) ≡ entry_size e
unfolding span_size span_of
span-size e = sym (size-parts e)

pub span-entry : (e : Entry) → entry_from (span_of e) e.old ≡ e
unfolding entry_from span_of
span-entry e = refl

pub from-size : (s : Span) (old : List ℕ) → length old ≡ s.taken → entry_size (entry_from s old) ≡ span_size s
unfolding span_size entry_from
from-size s old h = rw (size-parts (entry_from s old), h)

pub from_bytes : (s : Span) (old : List ℕ) → length old ≡ s.taken → length (entry_bytes (entry_from s old)) ≡ span_size s
unfolding entry_size
from_bytes s old h = from-size s old h

-- the numbers of a change between two files
pub sound-entry_of : (old new : List ℕ) → length old ≤ 1_048_576 → length new ≤ 1_048_576 → Sound (span_of (entry_of old new))
unfolding Sound span_of
sound-entry_of old new h g = (
  unfold entry_of in omega (arith, common_prefix-left old new),
  (unfold entry_of in omega arith, rw (length_taken old new) (omega arith)),
)

taken-part : (old new : List ℕ)
    → (entry_of old new).old ≡ part old (span_of (entry_of old new)).place (span_of (entry_of old new)).taken
unfolding span_of entry_of
taken-part old new =
    let p = common_prefix old new in
    let n = length old - (common_prefix old new + suffix_length old new) in
    ap (λ (m : ℕ). part old p m) (sym (length_part old p n (omega (arith, tail-left old new))))

-- the old bytes are those of the old file at p
pub span-old : (old new : List ℕ)
    → ((span_of (entry_of old new)).taken ≡ length (part old (span_of (entry_of old new)).place (span_of (entry_of old new)).taken))
    × ((entry_of old new).old ≡ part old (span_of (entry_of old new)).place (span_of (entry_of old new)).taken)
span-old old new =
    let e = taken-part old new in
    let f : (span_of (entry_of old new)).taken ≡ length (entry_of old new).old = unfold span_of in refl in
    (f ∙ ap length e, e)

-- ---- the entry written

-- the three numbers and the old bytes, side by side; a, b and c are where the numbers end
pub entry-written : (d o₁ o₂ o₃ o₄ : List ℕ) (s : Span) (old : List ℕ) (a b c : ℕ) → o₁ ≡ over d 0 (number_bytes s.place)
    → o₂ ≡ over o₁ a (number_bytes s.put) → o₃ ≡ over o₂ b (number_bytes s.taken) → o₄ ≡ over o₃ c old
    → a ≡ length (number_bytes s.place) → b ≡ a + length (number_bytes s.put) → c ≡ b + length (number_bytes s.taken)
    → length old ≡ s.taken → o₄ ≡ over d 0 (entry_bytes (entry_from s old))
unfolding entry_bytes entry_from
entry-written d o₁ o₂ o₃ o₄ s old a b c f₁ f₂ f₃ f₄ ea eb ec h =
    let p = number_bytes s.place in
    let k = number_bytes s.put in
    let m = number_bytes s.taken in
    let z : 0 ≤ length d = omega arith in
    let i : a ≡ 0 + length p = omega arith in
    let j : b ≡ 0 + length (p ++ k) = omega (arith, length-append p k) in
    let l : c ≡ 0 + length ((p ++ k) ++ m) = omega (arith, length-append p k, length-append (p ++ k) m) in
    let e₂ : o₂ ≡ over d 0 (p ++ k) = f₂ ∙ rw f₁ (over-over d 0 p a k i z) in
    let e₃ : o₃ ≡ over d 0 ((p ++ k) ++ m) = f₃ ∙ rw e₂ (over-over d 0 (p ++ k) b m j z) in
    let e₄ : o₄ ≡ over d 0 (((p ++ k) ++ m) ++ old) = f₄ ∙ rw e₃ (over-over d 0 ((p ++ k) ++ m) c old l z) in
    e₄ ∙ rw h (simp append_assoc)

-- ---- room made before a run

-- the run is moved up, and zeros put behind it
pub reserved : (d o q : List ℕ) (used n size b past : ℕ) → o ≡ over d (0 + size) (part d 0 n) → q ≡ over o b (zeros past)
    → b ≡ size + n → past ≡ used - b → b ≤ length d → Reserved d used n size q
unfolding holding
reserved d o q used n size b past f g bs ps fits = record { filled = fill }
  where
    fill : (e : List ℕ) → length e ≡ size → over q 0 e ≡ holding d used (e ++ take n d)
    fill e es =
        let t = take n d in
        let z = zeros (used - b) in
        let w = e ++ t in
        let lt : length t ≡ n = length_part d 0 n (omega arith) in
        let lw : length w ≡ b = length-append e t ∙ omega arith in
        let lz : length z ≡ used - b = length-zeros (used - b) in
        let q₁ : q ≡ over d (0 + size) (t ++ z) = g ∙ rw (f, ps) (over-over d (0 + size) t b z (omega arith) (omega arith)) in
        let r₁ : over q 0 e ≡ over d 0 (e ++ (t ++ z)) = rw q₁ (over-ahead d 0 e (0 + size) (t ++ z) (omega arith) (omega arith)) in
        let m : length (e ++ (t ++ z)) ≡ max used b = length-append e (t ++ z) ∙ omega (arith, length-append t z) in
        r₁ ∙ over_zero d (e ++ (t ++ z)) ∙ rw (m, lw) (simp append_assoc)

-- ---- the run that is kept, out of a buffer that holds a history

pub record KeptRun (d : List ℕ) (used space : ℕ) (k : Run) : Type 0 where
  pub held : List Entry
  pub held-is : entries_of (take used d) ≡ whole held
  pub bytes-is : k.bytes ≡ length (history_bytes (fitting_run space held))
  pub entries-is : k.entries ≡ length (fitting_run space held)
  pub run_is : take k.bytes d ≡ history_bytes (fitting_run space held)
  pub fits : k.bytes ≤ space
  pub few : 3 * k.entries ≤ k.bytes

run_by : (d : List ℕ) (used space : ℕ) (k : Run) (r : Entries) → AllBytes d → (number_of_entries r ≡ None → ⊥) → k ≡ run_of r space
    → entries_of (take used d) ≡ r → KeptRun d used space k
unfolding number_of_entries run_of
run_by d used space k (whole es) b u f e =
    let h = history_bytes (fitting_run space es) in
    let c : history_bytes es ≡ take used d = (entries-canonical (take used d) es (bytes_take used d b) e).0 in
    let n : k.bytes ≡ length h = ap (λ (r : Run). r.bytes) f in
    let m : k.entries ≡ length (fitting_run space es) = ap (λ (r : Run). r.entries) f in
    let t : h ≡ take (length h) (take used d) = kept-bytes space es ∙ ap (λ (l : List ℕ). take (length h) l) c in
    let i : length h ≤ length (take used d) = omega (arith, ap length t, length-take (length h) (take used d)) in
    let j : length h ≤ used = omega (arith, length-take used d) in
    record {
      held = es;
      held-is = e;
      bytes-is = n;
      entries-is = m;
      run_is = rw n (sym (t ∙ take-take (length h) used d j));
      fits = omega (arith, kept-fits space es);
      few = omega (arith, history-least (fitting_run space es));
    }
run_by d used space k broken b u f e = absurd (u refl)

pub kept_run : {d : List ℕ} {used space : ℕ} {k : Run} → AllBytes d → (number_of_entries (entries_of (take used d)) ≡ None → ⊥)
    → k ≡ run_of (entries_of (take used d)) space → KeptRun d used space k
kept_run {d} {used} {space} {k} b u f = run_by d used space k (entries_of (take used d)) b u f refl

-- the history with the entry first
recorded-run : {d : List ℕ} {used space : ℕ} {k : Run} (r : KeptRun d used space k) (e : Entry) → space ≡ length d - entry_size e
    → recorded_in (length d) e (entries_of (take used d)) ≡ e ∷ fitting_run space r.held
unfolding recorded_in recorded
recorded-run {d} r e f = rw (r.held-is, f)

-- o is the buffer after the entry was put in front of the run
pub history-first-run : {d o : List ℕ} {used space : ℕ} {k : Run} → KeptRun d used space k → (e : Entry) → space ≡ length d - entry_size e
    → o ≡ holding d used (entry_bytes e ++ take k.bytes d)
    → o ≡ holding d used (history_bytes (recorded_in (length d) e (entries_of (take used d))))
unfolding history_bytes
history-first-run r e f g = g ∙ rw (recorded-run r e f, r.run_is)

-- its length and number of entries
pub run-first : {d : List ℕ} {used space : ℕ} {k : Run} → KeptRun d used space k → (e : Entry) (size : ℕ) → size ≡ entry_size e
    → space ≡ length d - entry_size e
    → ◌≡◌ {A = Run} (record { bytes = size + k.bytes; entries = k.entries + 1 })
    (record {
      bytes = length (history_bytes (recorded_in (length d) e (entries_of (take used d))));
      entries = length (recorded_in (length d) e (entries_of (take used d)));
    })
run-first {d} {used} {space} {k} r e size s f =
    let l = fitting_run space r.held in
    let b : length (history_bytes (e ∷ l)) ≡ size + k.bytes = omega (arith, history-size e l, r.bytes-is) in
    let n : length (e ∷ l) ≡ k.entries + 1 = omega (arith, r.entries-is) in
    rw (recorded-run r e f, b, n)
