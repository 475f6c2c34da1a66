-- The file of the codeplug of a file is that file: parts that touch are put together again, and the offsets are where the banks start.
use Prim.Native.Nat.{ℕ, zero, suc, ◌+◌, ◌*◌, ◌≤◌, ◌<◌}
use mathlib.Core.Path.{◌≡◌, refl, sym, ◌∙◌}
use mathlib.Core.List.{List, ◌++◌, map, append_assoc}
use native.Mathlib.Omega.{arith}
use lib.ListN.{length, drop, take-append-drop, drop_of_length-le}
use lib.Seq.{drop-drop}
use Rattle.fields.specs.Bytes.{part, num, little_bytes}
use Rattle.fields.proofs.Laws.{length_part, part-add, AllBytes, little_bytes-num}
use Rattle.layout.specs.Places.{contact_count, channel_count, bank_count, contact_place, channel_place, offset_place, banks_place}
use Rattle.layout.specs.Banks.{entry_count, next_bank, offsets_rule, bank_place}
use Rattle.layout.proofs.Laws.{bank-leads, bank-inside, bank-first, bank-next, banks-end-is, offset-walks, offset-valid, offset-inside}
use Rattle.model.specs.HasLayout.{HasLayout}
use Rattle.model.specs.Codeplug.{Bank, joined, bank_bytes, offsets_from, count_bytes, codeplug_bytes, indexes_at, banks_at, codeplug_of}
use Rattle.model.proofs.Blocks.{joined-blocks, length-blocks, length-indexes, pairs-indexes, length-bank_bytes, length-banks_at}
use Rattle.fields.specs.Rule.{Valid}

-- ---- parts that touch

pub part-rest : (f : List ℕ) (k n j : ℕ) → j ≡ k + n → part f k n ++ drop j f ≡ drop k f
part-rest f k n j e = rw (e, ← drop-drop n k f) (take-append-drop n (drop k f))

-- ---- places

pub contacts-start : contact_place 0 ≡ 88
unfolding contact_place
contacts-start = refl

pub channels-start : (f : List ℕ) → channel_place f 0 ≡ 88 + contact_count f * 39
unfolding channel_place contact_place
channels-start f = omega arith

pub offsets-start : (f : List ℕ) → offset_place f 0 ≡ channel_place f 0 + channel_count f * 90
unfolding offset_place channel_place
offsets-start f = omega arith

pub banks-start : (f : List ℕ) → banks_place f ≡ offset_place f 0 + bank_count f * 4
unfolding banks_place
banks-start f = sym (offset-walks f (bank_count f))

-- where the table starts inside and each offset is, the whole table is
pub table-inside : (f : List ℕ) → offset_place f 0 ≤ length f → offsets_rule f ≡ Valid → banks_place f ≤ length f
table-inside f h g = by (bank_count f) refl
  where
    by : (n : ℕ) → bank_count f ≡ n → banks_place f ≤ length f
    by zero e = omega (arith, banks-start f)
    by (suc n) e =
        let d : n < bank_count f = omega arith in
        omega (arith, banks-start f, offset-walks f n, offset-inside f (offset_place f n) (offset-valid f n g d))

-- ---- one bank

-- the bank at p
abbrev bank_of : List ℕ → ℕ → Bank
bank_of f p = record { name = part f p 32; entries = indexes_at f (entry_count f p) (p + 34) }

count-bytes : (f : List ℕ) (p : ℕ) → AllBytes f → p + 34 ≤ length f → little_bytes 2 (entry_count f p) ≡ part f (p + 32) 2
unfolding entry_count
count-bytes f p h g = little_bytes-num f (p + 32) 2 h (omega arith)

bank-bytes : (f : List ℕ) (p : ℕ) → AllBytes f → p + 34 + entry_count f p * 2 ≤ length f
    → bank_bytes (bank_of f p) ≡ part f p (34 + entry_count f p * 2)
unfolding bank_bytes
bank-bytes f p h g =
    let n = entry_count f p in
    rw (
      length-indexes f n (p + 34),
      pairs-indexes f n (p + 34) h g,
      count-bytes f p h (omega arith),
      part-add f p 34 (n * 2),
      part-add f p 32 2,
    )
    (sym (append_assoc (part f p 32) (part f (p + 32) 2) (part f (p + 34) (n * 2))))

bank-length : (f : List ℕ) (p : ℕ) → p + 34 ≤ length f → length (bank_bytes (bank_of f p)) ≡ 34 + entry_count f p * 2
bank-length f p h =
    length-bank_bytes (bank_of f p) (length_part f p 32 (omega arith)) ∙ rw (length-indexes f (entry_count f p) (p + 34))

pub next_bank-is : (f : List ℕ) (i : ℕ) → next_bank f (bank_place f i) ≡ bank_place f (suc i)
unfolding next_bank
next_bank-is f i = sym (bank-next f i)

-- ---- n banks, from bank i on

module _ (f : List ℕ) (h : HasLayout f) where
  pub banks-bytes : (n i : ℕ) → i + n ≡ bank_count f → joined (map bank_bytes (banks_at f n (bank_place f i))) ≡ drop (bank_place f i) f
  unfolding banks_at joined
  banks-bytes zero i e =
      let d : i ≡ bank_count f = omega arith in
      let g : length f ≤ bank_place f i = rw d (omega (arith, banks-end-is f h.banks h.table)) in
      sym (drop_of_length-le f g)
  banks-bytes (suc n) i e =
      let p = bank_place f i in
      let g : p + 34 + entry_count f p * 2 ≤ length f = bank-inside f i h.banks (omega arith) in
      let d : bank_place f (suc i) ≡ p + (34 + entry_count f p * 2) = omega (arith, bank-next f i) in
      rw (bank-bytes f p h.bytes g, next_bank-is f i, banks-bytes n (suc i) (omega arith))
      (part-rest f p (34 + entry_count f p * 2) (bank_place f (suc i)) d)

  -- `at` is where bank i starts behind the table
  banks-offsets : (n i at : ℕ) → i + n ≡ bank_count f → banks_place f + at ≡ bank_place f i
      → offsets_from at (banks_at f n (bank_place f i)) ≡ part f (offset_place f i) (n * 4)
  unfolding banks_at offsets_from
  banks-offsets zero i at e d = refl
  banks-offsets (suc n) i at e d =
      let p = bank_place f i in
      let t = offset_place f i in
      let g : p + 34 + entry_count f p * 2 ≤ length f = bank-inside f i h.banks (omega arith) in
      let l : length (bank_bytes (bank_of f p)) ≡ 34 + entry_count f p * 2 = bank-length f p (omega arith) in
      let a : at ≡ num f t 4 = omega (arith, bank-leads f i h.banks (omega arith)) in
      let b : little_bytes 4 at ≡ part f t 4 =
      rw a (little_bytes-num f t 4 h.bytes (omega (arith, h.table, banks-start f, offset-walks f i)))
      in
      let q : t + 4 ≡ offset_place f (suc i) = omega (arith, offset-walks f i, offset-walks f (suc i)) in
      let m : suc n * 4 ≡ 4 + n * 4 = omega arith in
      rw (
        m,
        part-add f t 4 (n * 4),
        b,
        q,
        next_bank-is f i,
        banks-offsets n (suc i) (at + length (bank_bytes (bank_of f p))) (omega arith) (omega (arith, bank-next f i)),
      )

  -- ---- the whole file

  counts-bytes : count_bytes (codeplug_of f) ≡ part f 82 6
  unfolding count_bytes codeplug_of contact_count channel_count bank_count
  counts-bytes =
      let e : 88 ≤ length f = h.header in
      rw (
        length-blocks 39 (contact_count f) (drop (contact_place 0) f),
        length-blocks 90 (channel_count f) (drop (channel_place f 0) f),
        length-banks_at f (bank_count f) (banks_place f),
        little_bytes-num f 82 2 h.bytes (omega arith),
        little_bytes-num f 84 2 h.bytes (omega arith),
        little_bytes-num f 86 2 h.bytes (omega arith),
        part-add f 82 2 4,
        part-add f 84 2 2,
      )

  contacts-bytes : joined (codeplug_of f).contacts ≡ part f 88 (contact_count f * 39)
  unfolding codeplug_of
  contacts-bytes = rw contacts-start (joined-blocks 39 (contact_count f) (drop 88 f))

  channels-bytes : joined (codeplug_of f).channels ≡ part f (channel_place f 0) (channel_count f * 90)
  unfolding codeplug_of
  channels-bytes = joined-blocks 90 (channel_count f) (drop (channel_place f 0) f)

  pub file-of-codeplug : codeplug_bytes (codeplug_of f) ≡ f
  unfolding codeplug_bytes codeplug_of
  file-of-codeplug =
      rw (
        counts-bytes,
        contacts-bytes,
        channels-bytes,
        ← bank-first f,
        banks-offsets (bank_count f) 0 0 (omega arith) (omega (arith, bank-first f)),
        banks-bytes (bank_count f) 0 (omega arith),
        bank-first f,
        part-rest f (offset_place f 0) (bank_count f * 4) (banks_place f) (banks-start f),
        part-rest f (channel_place f 0) (channel_count f * 90) (offset_place f 0) (offsets-start f),
        part-rest f 88 (contact_count f * 39) (channel_place f 0) (channels-start f),
        part-rest f 82 6 88 refl,
      )
      (take-append-drop 82 f)
