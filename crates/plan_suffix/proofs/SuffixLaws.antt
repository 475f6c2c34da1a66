-- Laws of what two files have in common behind a change.
use Prim.Native.Nat.{ℕ, zero, suc, ◌+◌, ◌-◌, ◌*◌, ◌^◌, ◌≤◌, ◌<◌}
use mathlib.Core.Path.{◌≡◌, refl, ap, sym, ◌∙◌}
use mathlib.Core.List.{List, ◌++◌, append_assoc, append-nil}
use native.Mathlib.Omega.{arith}
use lib.ListN.{length, take, drop, length-append}
use lib.Seq.{take-take, take-length}
use mir.Syntax.{w64}
use mir.Val.{Fits}
use Rattle.fields.specs.Bytes.{part, num, little_bytes}
use Rattle.fields.proofs.Laws.{length_part, length-little_bytes}
use Rattle.affixes.specs.Common.{common_suffix}
use Rattle.affixes.proofs.PieceLaws.{piece-stops, piece-goes, piece-left, piece-fits, turn, turn-done}
use Rattle.renumber.specs.Moved.{offsets_moved}
use Rattle.plan.specs.declared.Counted.{Counted}
use Rattle.plan.specs.declared.Table.{Table}
use Rattle.plan.specs.declared.Block.{Block}
use Rattle.plan_suffix.specs.Suffix.{between, table_end, new_offsets, entries_behind, entries_pieces, table_pieces, bank_behind, bank_pieces}
use Rattle.plan_suffix.specs.Suffix.{bank_suffix, EntriesInside, TableInside, BankInside}

-- ---- s compared from its end on with w, which is a and then n bytes, of which e agree

pub record Compared (s w a : List ℕ) (n e : ℕ) : Type 0 where
  pub room : e ≤ length s
  pub stops : e < n → e ≡ common_suffix s w
  pub fits : (r : ℕ) → r ≡ common_suffix (take (length s - e) s) a → e + r ≤ length s
  pub goes : n ≤ e → (r : ℕ) → r ≡ common_suffix (take (length s - e) s) a → e + r ≡ common_suffix s w

pub compared : (s w a b : List ℕ) (n e : ℕ) → w ≡ a ++ b → length b ≡ n → e ≡ common_suffix s b → Compared s w a n e
compared s w a b n e ew lb eb =
    record {
      room = piece-left s b e eb;
      stops = λ h. piece-stops s w a b e ew eb (omega arith);
      fits = λ r g. piece-fits s a e r (piece-left s b e eb) g;
      goes = λ h r g. piece-goes s w a b e r ew eb (omega arith) g;
    }

-- ---- the offsets, from the last one on

offsets-last : (n : ℕ) (g : ℕ → ℕ) (f : List ℕ) (p : ℕ)
    → offsets_moved (suc n) g f p ≡ offsets_moved n g f p ++ little_bytes 4 (g (num f (p + n * 4) 4))
unfolding offsets_moved
offsets-last zero g f p =
    let e : p + 0 * 4 ≡ p = omega arith in
    rw (e, append-nil)
offsets-last (suc n) g f p =
    let e : p + suc n * 4 ≡ p + 4 + n * 4 = omega arith in
    rw e (ap (λ (l : List ℕ). little_bytes 4 (g (num f p 4)) ++ l) (offsets-last n g f (p + 4))
    ∙ sym (append_assoc (little_bytes 4 (g (num f p 4))) (offsets_moved n g f (p + 4)) (little_bytes 4 (g (num f (p + 4 + n * 4) 4)))))

pub suffix-none : (s w : List ℕ) → common_suffix s w ≡ 0 + common_suffix (take (length s - 0) s) w
suffix-none s w =
    let e : length s - 0 ≡ length s = omega arith in
    rw (e, take-length s) (omega arith)

-- the last e bytes agree; i offsets are left, and of the last of them, x, k bytes agree
pub record Iteration (s w : List ℕ) (g : ℕ → ℕ) (f : List ℕ) (p i e k : ℕ) : Type 0 where
  pub room : e + k ≤ length s
  pub stops : k < 4 → e + k ≡ common_suffix s w
  pub goes : 4 ≤ k → common_suffix s w ≡ e + k + common_suffix (take (length s - (e + k)) s) (offsets_moved (i - 1) g f p)

pub iteration : (s w : List ℕ) (g : ℕ → ℕ) (f x : List ℕ) (p i e k : ℕ) → 0 < i → e ≤ length s
    → common_suffix s w ≡ e + common_suffix (take (length s - e) s) (offsets_moved i g f p)
    → x ≡ little_bytes 4 (g (num f (p + (i - 1) * 4) 4)) → k ≡ common_suffix (take (length s - e) s) x → Iteration s w g f p i e k
iteration s w g f x p i e k hi he inv ex ek =
    let a = offsets_moved (i - 1) g f p in
    let j : suc (i - 1) ≡ i = omega arith in
    let eb : offsets_moved i g f p ≡ a ++ x = rw ex (rw j at (offsets-last (i - 1) g f p)) in
    let l : length x ≡ 4 = rw ex (length-little_bytes 4 (g (num f (p + (i - 1) * 4) 4))) in
    let t = turn s w (offsets_moved i g f p) a x e k he inv eb ek in
    record { room = t.room; stops = λ h. t.stops (omega arith); goes = λ h. t.goes (omega arith) }

pub suffix-done : (s w : List ℕ) (g : ℕ → ℕ) (f : List ℕ) (p i e : ℕ) → i ≤ 0
    → common_suffix s w ≡ e + common_suffix (take (length s - e) s) (offsets_moved i g f p) → e ≡ common_suffix s w
unfolding offsets_moved
suffix-done s w g f p i e z h =
    let k : i ≡ 0 = omega arith in
    turn-done s w e (rw k at h)

-- ---- the bytes of f from p up to q compared so

pub record Behind (f : List ℕ) (p q : ℕ) (w a : List ℕ) (n e : ℕ) : Type 0 where
  pub below : e ≤ q
  pub rest : p ≤ q - e
  pub inside : q - e ≤ length f
  pub stops : e < n → e ≡ common_suffix (between f p q) w
  pub fits : (r : ℕ) → r ≡ common_suffix (part f p (q - e - p)) a → e + r ≤ length f
  pub goes : n ≤ e → (r : ℕ) → r ≡ common_suffix (part f p (q - e - p)) a → e + r ≡ common_suffix (between f p q) w

behind : (f w a b : List ℕ) (p q n e : ℕ) → p ≤ q → q ≤ length f → w ≡ a ++ b → length b ≡ n → e ≡ common_suffix (between f p q) b
    → Behind f p q w a n e
behind f w a b p q n e h i ew lb eb =
    let c = compared (between f p q) w a b n e ew lb eb in
    let l : length (between f p q) ≡ q - p = length_part f p (q - p) (omega arith) in
    let m : q - e - p ≡ q - p - e = omega arith in
    let k : take (length (between f p q) - e) (between f p q) ≡ part f p (q - e - p) =
    rw (l, m) (take-take (q - p - e) (q - p) (drop p f) (omega arith))
    in
    record {
      below = omega (arith, c.room);
      rest = omega (arith, c.room);
      inside = omega arith;
      stops = c.stops;
      fits = λ r g. omega (arith, c.fits r (rw k g));
      goes = λ j r g. c.goes j r (rw k g);
    }

-- a number that is at most another, which fits a word
pub word : {e n : ℕ} → e ≤ n → n < 2 ^ 64 → Fits w64 e
word h i = omega arith

-- entries come or go: n is the count in bytes
abbrev pub EntriesLeft : Table → Counted → List ℕ → List ℕ → ℕ → Type 0
EntriesLeft t c r f e =
    Behind f t.start (c.at + c.gone) (entries_pieces t c r f) (new_offsets t f) (c.at - table_end t + length r) e

pub entries-left : (t : Table) (c : Counted) (r f n : List ℕ) (e : ℕ) → EntriesInside t c (length f) → n ≡ little_bytes 2 c.count
    → e
    ≡ common_suffix (between f t.start (c.at + c.gone))
    (between f (table_end t) c.counter ++ (n ++ (between f (c.counter + 2) c.at ++ r)))
    → EntriesLeft t c r f e
entries-left t c r f n e h en ee =
    let l : length (between f (table_end t) c.counter) ≡ c.counter - table_end t =
    length_part f (table_end t) (c.counter - table_end t) (omega arith)
    in
    let m : length (between f (c.counter + 2) c.at) ≡ c.at - (c.counter + 2) =
    length_part f (c.counter + 2) (c.at - (c.counter + 2)) (omega arith)
    in
    let k : length (entries_behind t c r f) ≡ c.at - table_end t + length r =
    rw (length-append, length-append, length-append, l, m, length-little_bytes 2 c.count) (omega arith)
    in
    behind f (entries_pieces t c r f) (new_offsets t f) (entries_behind t c r f) t.start (c.at + c.gone) _ e (omega arith) (omega arith)
    refl k (rw en at ee)

pub entries-order : (t : Table) (c : Counted) (end : ℕ) → EntriesInside t c end → table_end t ≤ c.at
entries-order t c end h = omega arith

pub entries-table : (t : Table) (c : Counted) (end : ℕ) → EntriesInside t c end → (table_end t ≤ end) × (t.many < 65536)
entries-table t c end h = (omega arith, h.1.1.1)

-- a bank comes or goes
pub record BankLeft (t : Table) (k : Block) (c : Counted) (a b added f : List ℕ) (e : ℕ) : Type 0 where
  pub behind :
      Behind f c.counter (k.at + k.size) (bank_pieces t k c a b added f) (table_pieces t c added f)
      (k.at - table_end t + (length a + length b)) e
  pub stops : e < length a + length b → e ≡ bank_suffix t k c a b added f
  pub stops-2 : length a + length b ≤ e → e - (length a + length b) < k.at - table_end t → e ≡ bank_suffix t k c a b added f
  pub goes : length a + length b ≤ e → k.at - table_end t ≤ e - (length a + length b) → (r : ℕ)
      → r ≡ common_suffix (part f c.counter (k.at + k.size - e - c.counter)) (table_pieces t c added f)
      → e + r ≡ bank_suffix t k c a b added f

pub bank-left : (t : Table) (k : Block) (c : Counted) (a b added f : List ℕ) (e : ℕ) → BankInside t k c (length f)
    → e ≡ common_suffix (between f c.counter (k.at + k.size)) (bank_behind t k a b f) → BankLeft t k c a b added f e
bank-left t k c a b added f e h ee =
    let l : length (between f (table_end t) k.at) ≡ k.at - table_end t =
    length_part f (table_end t) (k.at - table_end t) (omega arith)
    in
    let w =
    behind f (bank_pieces t k c a b added f) (table_pieces t c added f) (bank_behind t k a b f) c.counter (k.at + k.size)
    (k.at - table_end t + (length a + length b)) e (omega arith) (omega arith) refl (rw (length-append, length-append, l)) ee
    in
    record {
      behind = w;
      stops = λ i. w.stops (omega arith);
      stops-2 = λ i j. w.stops (omega arith);
      goes = λ i j r g. w.goes (omega arith) r g;
    }

pub bank-table : (t : Table) (k : Block) (c : Counted) (end : ℕ) → BankInside t k c end → TableInside t c end
bank-table t k c end h = (omega arith, (h.1.0, (h.1.1.0, omega arith)))
