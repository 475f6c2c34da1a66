-- Laws of places in a file: the counts of its codeplug, where a bank stands, and how many entries it has.
use Prim.Native.Nat.{ℕ, zero, suc, ◌^◌, ◌≤◌, ◌<◌}
use mathlib.Core.Path.{◌≡◌, refl, sym}
use mathlib.Core.Bool.{Bool, true, false}
use mathlib.Core.List.{List}
use native.Mathlib.Omega.{arith}
use lib.ListN.{length}
use lib.Dec.{ltb}
use borrow.Author.Tests.{ltb-true, ltb-false}
use Rattle.layout.specs.Places.{contact_count, channel_count, bank_count, offset_place, banks_place}
use Rattle.layout.specs.Banks.{entry_count, offset_target, next_bank, bank_from, bank_place}
use Rattle.model.specs.Codeplug.{banks_at, codeplug_of}
use Rattle.model.specs.EditRules.{entries_in}
use Rattle.layout.proofs.Laws.{bank-leads, bank-inside, bank-first, bank-next, banks-end-is}
use Rattle.model.specs.HasLayout.{HasLayout}
use Rattle.model.proofs.Blocks.{length-blocks, length-indexes, length-banks_at}

-- ---- the counts

pub contacts-count : (f : List ℕ) → length (codeplug_of f).contacts ≡ contact_count f
unfolding codeplug_of
contacts-count f = length-blocks 39 (contact_count f) _

pub channels-count : (f : List ℕ) → length (codeplug_of f).channels ≡ channel_count f
unfolding codeplug_of
channels-count f = length-blocks 90 (channel_count f) _

pub banks-count : (f : List ℕ) → length (codeplug_of f).banks ≡ bank_count f
unfolding codeplug_of
banks-count f = length-banks_at f (bank_count f) (banks_place f)

-- ---- the entries of bank i

entries_from : (f : List ℕ) (i n p : ℕ) → i < n → entries_in i (banks_at f n p) ≡ entry_count f (bank_from f i p)
unfolding entries_in banks_at bank_from
entries_from f i zero p h = absurd (omega arith)
entries_from f zero (suc n) p h = length-indexes f (entry_count f p) _
entries_from f (suc i) (suc n) p h = entries_from f i n (next_bank f p) (omega arith)

pub entries_at : (f : List ℕ) (i : ℕ) → i < bank_count f → entries_in i (codeplug_of f).banks ≡ entry_count f (bank_place f i)
unfolding codeplug_of bank_place
entries_at f i h = entries_from f i (bank_count f) (banks_place f) h

none_from : (f : List ℕ) (i n p : ℕ) → n ≤ i → entries_in i (banks_at f n p) ≡ 0
unfolding entries_in banks_at
none_from f i zero p h = refl
none_from f zero (suc n) p h = absurd (omega arith)
none_from f (suc i) (suc n) p h = none_from f i n (next_bank f p) (omega arith)

pub entries_none : (f : List ℕ) (i : ℕ) → bank_count f ≤ i → entries_in i (codeplug_of f).banks ≡ 0
unfolding codeplug_of
entries_none f i h = none_from f i (bank_count f) (banks_place f) h

-- bank i by its offset, which stands at t and leads to p
pub entries-read : (f : List ℕ) (i n t p r : ℕ) → HasLayout f → n ≡ bank_count f → i < n → t ≡ offset_place f i
    → p ≡ offset_target f t → r ≡ entry_count f p → r ≡ entries_in i (codeplug_of f).banks
entries-read f i n t p r h dn g dt dp dr =
    let lt : i < bank_count f = omega arith in
    rw (dr, dp, dt, bank-leads f i h.banks lt) (sym (entries_at f i lt))

-- ---- places of the banks

pub bank-behind : (f : List ℕ) (i : ℕ) → banks_place f ≤ bank_place f i
bank-behind f zero = omega (arith, bank-first f)
bank-behind f (suc i) = omega (arith, bank-next f i, bank-behind f i)

pub bank-within : (f : List ℕ) (i : ℕ) → HasLayout f → i ≤ bank_count f → bank_place f i ≤ length f
bank-within f i l h = by (ltb i (bank_count f)) refl
  where
    by : (t : Bool) → ltb i (bank_count f) ≡ t → bank_place f i ≤ length f
    by true e = omega (arith, bank-inside f i l.banks (ltb-true i (bank_count f) e))
    by false e =
        let d : i ≡ bank_count f = omega (arith, ltb-false i (bank_count f) e) in
        rw d (omega (arith, banks-end-is f l.banks l.table))

-- bank i by its offset, which stands at t and leads to r
pub bank-read : (f : List ℕ) (i t r : ℕ) → HasLayout f → i < bank_count f → t ≡ offset_place f i → r ≡ offset_target f t
    → (r ≡ bank_place f i) × (r ≤ length f)
bank-read f i t r l h dt dr =
    let e : r ≡ bank_place f i = rw (dr, dt) (bank-leads f i l.banks h) in
    (e, omega (arith, bank-within f i l (omega arith)))

-- behind the last bank
pub bank-last : (f : List ℕ) (i : ℕ) → HasLayout f → i ≡ bank_count f
    → (length f ≡ bank_place f i) × ((length f ≤ length f) × (length f < 2 ^ 33))
bank-last f i l h =
    (rw h (sym (banks-end-is f l.banks l.table)), (omega arith, omega (arith, l.short)))
