-- Laws of the layout: parts that are lent, the walk over the banks, and what an accepted file gives.
use Prim.Native.Nat.{ℕ, zero, suc, ◌+◌, ◌*◌, ◌-◌, ◌≤◌, ◌<◌}
use mathlib.Core.Path.{◌≡◌, refl, ap, sym, ◌∙◌}
use mathlib.Core.Bool.{true}
use mathlib.Core.List.{List}
use native.Mathlib.Omega.{arith}
use native.Mathlib.Nat.{add-zero, sub-zero}
use lib.ListN.{length, take, drop, length-drop, drop_of_length-le}
use lib.Seq.{take_all, take-nil}
use lib.Dec.{leb, ltb, eqb}
use borrow.Author.Tests.{eqb-true, leb-true, ltb-true}
use Rattle.fields.specs.Bytes.{part, num}
use Rattle.text.specs.Text.{text_ok}
use Rattle.fields.specs.Rule.{◌then◌, unless, field, each}
use Rattle.fields.proofs.Laws.{part-inside, part-part, then-valid, ok_then, err_then, unless-valid, field-valid, each-valid, AllBytes, num-lt}
use Rattle.layout.specs.Places.{contact_count, channel_count, bank_count, offset_place, banks_place}
use Rattle.layout.specs.Header.{header_rule}
use Rattle.layout.specs.Banks.{offset_at, offsets_rule, entry_at, entry_count, bank_head, bank_at, next_bank, banks_from, banks_rule}
use Rattle.layout.specs.Banks.{bank_from, bank_place}
use Rattle.format.specs.declared.refusals.Reason.TheVariants as reason
use Rattle.std.specs.Prelude.{Err}
use Rattle.fields.specs.Rule.{Validity, Valid}
use Rattle.format.specs.declared.refusals.Refusal.{Refusal}

-- ---- parts that are lent

-- from the end on nothing is left
pub record-bytes-none : (f : List ℕ) (n p w : ℕ) → n ≡ length f → length f ≤ p → take (length f - n) (drop n f) ≡ part f p w
record-bytes-none f n p w e h =
    let d : length f - n ≡ 0 = omega arith in
    rw (d, drop_of_length-le f h, take-nil w)

-- all the bytes
pub record-bytes-all : (f : List ℕ) (p w e : ℕ) → e ≡ p + w → take (e - p) (drop p f) ≡ part f p w
record-bytes-all f p w e h =
    let d : e - p ≡ w = omega arith in
    rw d

-- as many as there are
pub record-bytes-rest : (f : List ℕ) (p w : ℕ) → length f ≤ p + w → take (length f - p) (drop p f) ≡ part f p w
record-bytes-rest f p w h =
    let a : length (drop p f) ≤ w = rw length-drop (omega arith) in
    let b : length (drop p f) ≤ length f - p = rw length-drop (omega arith) in
    take_all (length f - p) (drop p f) b ∙ sym (take_all w (drop p f) a)

-- ---- a bank's head, of the bytes that are lent

pub bank_head_lent : (f : List ℕ) (p : ℕ)
    → bank_head f p ≡ field (part f p 34) p 0 32 reason.Text (text_ok (part (part f p 34) 0 32)) then field (part f p 34) p 32 2 reason.Value true
unfolding bank_head
bank_head_lent f p = rw (part-part f p 34 0 32 (omega arith), add-zero)

-- ---- the walk over the banks

pub banks-none : (f : List ℕ) (t p : ℕ) → banks_from f 0 t p ≡ unless (leb (length f) p) reason.Trailing p
unfolding banks_from
banks-none f t p = refl

pub banks-suc : (f : List ℕ) (n t p : ℕ) → banks_from f (suc n) t p ≡ bank_at f t p then banks_from f n (t + 4) (next_bank f p)
unfolding banks_from
banks-suc f n t p = refl

-- at the i-th of n banks
pub banks-step : (f : List ℕ) (n i t p : ℕ) → i < n
    → banks_from f (n - i) t p ≡ bank_at f t p then banks_from f (n - (i + 1)) (t + 4) (next_bank f p)
banks-step f n i t p h =
    let e : n - i ≡ suc (n - (i + 1)) = omega arith in
    rw e (banks-suc f (n - (i + 1)) t p)

-- the loop: what is left from the i-th bank on, at p, answers for all
pub banks_begin : (f : List ℕ) → banks_rule f ≡ banks_from f (bank_count f - 0) (offset_place f 0 + 0) (banks_place f)
unfolding banks_rule
banks_begin f = rw (sub-zero, add-zero)

pub banks_more : (f : List ℕ) (i p : ℕ) → i < bank_count f → banks_rule f ≡ banks_from f (bank_count f - i) (offset_place f 0 + i * 4) p
    → bank_at f (offset_place f 0 + i * 4) p ≡ Valid
    → banks_rule f ≡ banks_from f (bank_count f - (i + 1)) (offset_place f 0 + (i + 1) * 4) (next_bank f p)
banks_more f i p h e g =
    let d : offset_place f 0 + (i + 1) * 4 ≡ offset_place f 0 + i * 4 + 4 = omega arith in
    e ∙ banks-step f (bank_count f) i (offset_place f 0 + i * 4) p h ∙ rw (g, d) (ok_then tt _)

pub banks_refused : (f : List ℕ) (i p : ℕ) (e : Refusal) → i < bank_count f
    → banks_rule f ≡ banks_from f (bank_count f - i) (offset_place f 0 + i * 4) p → bank_at f (offset_place f 0 + i * 4) p ≡ Err e
    → banks_rule f ≡ Err e
banks_refused f i p e h g d = g ∙ banks-step f (bank_count f) i (offset_place f 0 + i * 4) p h ∙ rw d (err_then e _)

pub banks_end : (f : List ℕ) (i p : ℕ) → bank_count f ≤ i → banks_rule f ≡ banks_from f (bank_count f - i) (offset_place f 0 + i * 4) p
    → banks_rule f ≡ unless (leb (length f) p) reason.Trailing p
banks_end f i p h e =
    let z : bank_count f - i ≡ 0 = omega arith in
    e ∙ rw z (banks-none f (offset_place f 0 + i * 4) p)

-- ---- what an accepted header gives

pub header-length : (f : List ℕ) → header_rule f ≡ Valid → 88 ≤ length f
unfolding header_rule
header-length f h =
    let a = (then-valid _ _ h).1 in
    let b = (then-valid _ _ a).1 in
    let d = (then-valid _ _ b).1 in
    let e = (then-valid _ _ d).1 in
    (field-valid (length f) 0 86 2 reason.Value true e).0

-- the counts are numbers of two bytes
pub contact_count-lt : (f : List ℕ) → AllBytes f → contact_count f < 65536
unfolding contact_count
contact_count-lt f h = num-lt f 82 2 h

pub channel_count-lt : (f : List ℕ) → AllBytes f → channel_count f < 65536
unfolding channel_count
channel_count-lt f h = num-lt f 84 2 h

pub bank_count-lt : (f : List ℕ) → AllBytes f → bank_count f < 65536
unfolding bank_count
bank_count-lt f h = num-lt f 86 2 h

pub entry_count-lt : (f : List ℕ) (p : ℕ) → AllBytes f → entry_count f p < 65536
unfolding entry_count
entry_count-lt f p h = num-lt f (p + 32) 2 h

-- ---- what an accepted table of offsets gives

pub offset-walks : (f : List ℕ) (n : ℕ) → offset_place f 0 + n * 4 ≡ offset_place f n
unfolding offset_place
offset-walks f n = omega arith

pub offset-valid : (f : List ℕ) (n : ℕ) → offsets_rule f ≡ Valid → n < bank_count f → offset_at f (offset_place f n) ≡ Valid
unfolding offsets_rule
offset-valid f n h g =
    ap (λ (p : ℕ). offset_at f p) (sym (offset-walks f n)) ∙ each-valid (offset_at f) (bank_count f) 4 (offset_place f 0) h n g

pub offset-inside : (f : List ℕ) (p : ℕ) → offset_at f p ≡ Valid → p + 4 ≤ length f
offset-inside f p h = part-inside f p 4 (omega arith) (field-valid (length (part f p 4)) p 0 4 reason.Value true h).0

-- ---- what accepted banks give

-- bank n after the one at p, whose offset stands at t
bank-of : (f : List ℕ) (m n t p : ℕ) → banks_from f m t p ≡ Valid → n < m → bank_at f (t + n * 4) (bank_from f n p) ≡ Valid
unfolding banks_from bank_from
bank-of f zero n t p h g = absurd (omega arith)
bank-of f (suc m) zero t p h g =
    let e : t + 0 * 4 ≡ t = omega arith in
    rw e (then-valid (bank_at f t p) (banks_from f m (t + 4) (next_bank f p)) h).0
bank-of f (suc m) (suc n) t p h g =
    let e : t + suc n * 4 ≡ t + 4 + n * 4 = omega arith in
    rw e
    (bank-of f m n (t + 4) (next_bank f p) (then-valid (bank_at f t p) (banks_from f m (t + 4) (next_bank f p)) h).1 (omega arith))

pub bank-validated : (f : List ℕ) (n : ℕ) → banks_rule f ≡ Valid → n < bank_count f → bank_at f (offset_place f n) (bank_place f n) ≡ Valid
unfolding banks_rule bank_place
bank-validated f n h g =
    ap (λ (t : ℕ). bank_at f t (bank_from f n (banks_place f))) (sym (offset-walks f n))
    ∙ bank-of f (bank_count f) n (offset_place f 0) (banks_place f) h g

-- the three parts of a bank's validity
bank_at-valid : (f : List ℕ) (t p : ℕ) → bank_at f t p ≡ Valid
    → (banks_place f + num f t 4 ≡ p) × ((bank_head f p ≡ Valid) × (each (entry_at f) (entry_count f p) 2 (p + 34) ≡ Valid))
unfolding bank_at
bank_at-valid f t p h =
    let entries = each (entry_at f) (entry_count f p) 2 (p + 34) in
    let a = then-valid (unless (eqb (banks_place f + num f t 4) p) reason.BankOffset t) (bank_head f p then entries) h in (
      eqb-true (banks_place f + num f t 4) p (unless-valid (eqb (banks_place f + num f t 4) p) reason.BankOffset t a.0),
      then-valid (bank_head f p) entries a.1,
    )

-- the offset of bank n leads to where it starts by walking
pub bank-leads : (f : List ℕ) (n : ℕ) → banks_rule f ≡ Valid → n < bank_count f
    → banks_place f + num f (offset_place f n) 4 ≡ bank_place f n
bank-leads f n h g = (bank_at-valid f (offset_place f n) (bank_place f n) (bank-validated f n h g)).0

pub bank-valid : (f : List ℕ) (n : ℕ) → banks_rule f ≡ Valid → n < bank_count f
    → (bank_head f (bank_place f n) ≡ Valid)
    × (each (entry_at f) (entry_count f (bank_place f n)) 2 (bank_place f n + 34) ≡ Valid)
bank-valid f n h g = (bank_at-valid f (offset_place f n) (bank_place f n) (bank-validated f n h g)).1

pub bank-head-length : (f : List ℕ) (p : ℕ) → bank_head f p ≡ Valid → p + 34 ≤ length f
unfolding bank_head
bank-head-length f p h =
    let a = (then-valid (field (part f p 34) p 0 32 reason.Text (text_ok (part f p 32))) (field (part f p 34) p 32 2 reason.Value true) h).1 in
    part-inside f p 34 (omega arith) (field-valid (length (part f p 34)) p 32 2 reason.Value true a).0

pub entry-inside : (f : List ℕ) (p : ℕ) → entry_at f p ≡ Valid → (p + 2 ≤ length f) × (num f p 2 < channel_count f)
unfolding entry_at
entry-inside f p h =
    let a = field-valid (length (part f p 2)) p 0 2 reason.BankEntry (ltb (num f p 2) (channel_count f)) h in
    (part-inside f p 2 (omega arith) a.0, ltb-true (num f p 2) (channel_count f) a.1)

-- entry i of a run from p on
pub entry-valid : (f : List ℕ) (n p i : ℕ) → each (entry_at f) n 2 p ≡ Valid → i < n → num f (p + i * 2) 2 < channel_count f
entry-valid f n p i h g = (entry-inside f (p + i * 2) (each-valid (entry_at f) n 2 p h i g)).1

pub entries-inside : (f : List ℕ) (n p : ℕ) → p ≤ length f → each (entry_at f) n 2 p ≡ Valid → p + n * 2 ≤ length f
entries-inside f zero p g h = omega arith
entries-inside f (suc n) p g h =
    omega (arith, (entry-inside f (p + n * 2) (each-valid (entry_at f) (suc n) 2 p h n (omega arith))).0)

pub bank-inside : (f : List ℕ) (n : ℕ) → banks_rule f ≡ Valid → n < bank_count f
    → bank_place f n + 34 + entry_count f (bank_place f n) * 2 ≤ length f
bank-inside f n h g =
    let a = bank-valid f n h g in
    entries-inside f (entry_count f (bank_place f n)) (bank_place f n + 34) (bank-head-length f (bank_place f n) a.0) a.1

-- banks touch
bank-after : (f : List ℕ) (n p : ℕ) → bank_from f (suc n) p ≡ next_bank f (bank_from f n p)
unfolding bank_from
bank-after f zero p = refl
bank-after f (suc n) p = bank-after f n (next_bank f p)

pub bank-first : (f : List ℕ) → bank_place f 0 ≡ banks_place f
unfolding bank_place bank_from
bank-first f = refl

pub bank-next : (f : List ℕ) (n : ℕ) → bank_place f (suc n) ≡ bank_place f n + 34 + entry_count f (bank_place f n) * 2
unfolding bank_place next_bank
bank-next f n = bank-after f n (banks_place f)

-- the file ends with the last bank
banks-reach : (f : List ℕ) (m t p : ℕ) → banks_from f m t p ≡ Valid → length f ≤ bank_from f m p
unfolding banks_from bank_from
banks-reach f zero t p h = leb-true (length f) p (unless-valid (leb (length f) p) reason.Trailing p h)
banks-reach f (suc m) t p h =
    banks-reach f m (t + 4) (next_bank f p) (then-valid (bank_at f t p) (banks_from f m (t + 4) (next_bank f p)) h).1

pub banks-end : (f : List ℕ) → banks_rule f ≡ Valid → length f ≤ bank_place f (bank_count f)
unfolding banks_rule bank_place
banks-end f h = banks-reach f (bank_count f) (offset_place f 0) (banks_place f) h

pub banks-end-is : (f : List ℕ) → banks_rule f ≡ Valid → banks_place f ≤ length f → bank_place f (bank_count f) ≡ length f
banks-end-is f h g = by (bank_count f) refl
  where
    by : (m : ℕ) → bank_count f ≡ m → bank_place f (bank_count f) ≡ length f
    by zero e =
        let a : length f ≤ bank_place f 0 = rw e at (banks-end f h) in
        rw e (omega (arith, bank-first f))
    by (suc n) e =
        let a : length f ≤ bank_place f (suc n) = rw e at (banks-end f h) in
        rw e (omega (arith, bank-next f n, bank-inside f n h (omega arith)))
