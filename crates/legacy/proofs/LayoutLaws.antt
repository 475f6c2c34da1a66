-- Two files of one length that have the same header and the same bytes from a place on: their counts and places are the same, and what the rules ask of the header, and of
-- offsets and banks from that place on.
use Prim.Native.Nat.{ℕ, zero, suc, ◌+◌, ◌*◌, ◌≤◌}
use mathlib.Core.Path.{◌≡◌, refl, sym, ◌∙◌}
use mathlib.Core.List.{List}
use native.Mathlib.Omega.{arith}
use lib.ListN.{length, take, drop}
use Rattle.fields.specs.Bytes.{part}
use Rattle.fields.specs.Rule.{each}
use Rattle.fields.proofs.Laws.{part-part, each_same}
use Rattle.layout.specs.Places.{contact_count, channel_count, bank_count, counts_of, channel_place, offset_place, banks_place}
use Rattle.layout.specs.Header.{identity_rule, header_rule}
use Rattle.layout.specs.Banks.{offset_at, offsets_rule, entry_at, entry_count, bank_head, bank_at, next_bank, banks_from, banks_rule, bank_from, bank_place}

-- a part of the first n bytes
pub part_same : (f g : List ℕ) (n k w : ℕ) → take n f ≡ take n g → k + w ≤ n → part f k w ≡ part g k w
part_same f g n k w e h =
    let z : 0 + k ≡ k = omega arith in
    let a = rw z at (part-part f 0 n k w h) in
    let b = rw z at (part-part g 0 n k w h) in
    sym a ∙ rw e b

module _ (f g : List ℕ) (front : take 88 f ≡ take 88 g) where
  pub contact_count-same : contact_count f ≡ contact_count g
  unfolding contact_count
  contact_count-same = rw (part_same f g 88 82 2 front (omega arith))

  pub channel_count-same : channel_count f ≡ channel_count g
  unfolding channel_count
  channel_count-same = rw (part_same f g 88 84 2 front (omega arith))

  pub bank_count-same : bank_count f ≡ bank_count g
  unfolding bank_count
  bank_count-same = rw (part_same f g 88 86 2 front (omega arith))

  pub counts_same : counts_of f ≡ counts_of g
  unfolding counts_of
  counts_same = rw (contact_count-same, channel_count-same, bank_count-same)

  pub channel_place-same : (i : ℕ) → channel_place f i ≡ channel_place g i
  unfolding channel_place
  channel_place-same i = rw contact_count-same

  pub offset_place-same : (i : ℕ) → offset_place f i ≡ offset_place g i
  unfolding offset_place
  offset_place-same i = rw (channel_place-same (channel_count f), channel_count-same)

  pub banks_place-same : banks_place f ≡ banks_place g
  unfolding banks_place
  banks_place-same = rw (offset_place-same (bank_count f), bank_count-same)

  pub header-same : length f ≡ length g → header_rule f ≡ header_rule g
  unfolding header_rule identity_rule
  header-same l =
      rw (
        l,
        part_same f g 88 0 8 front (omega arith),
        part_same f g 88 8 2 front (omega arith),
        part_same f g 88 10 32 front (omega arith),
        part_same f g 88 42 32 front (omega arith),
      )

  -- from q on
  module _ (q : ℕ) (l : length f ≡ length g) (tail : (p : ℕ) → q ≤ p → drop p f ≡ drop p g) where
    pub entry_count-same : (p : ℕ) → q ≤ p → entry_count f p ≡ entry_count g p
    unfolding entry_count
    entry_count-same p h = rw (tail (p + 32) (omega arith))

    pub next_bank-same : (p : ℕ) → q ≤ p → next_bank f p ≡ next_bank g p
    unfolding next_bank
    next_bank-same p h = rw (entry_count-same p h)

    entry-same : (p : ℕ) → q ≤ p → entry_at f p ≡ entry_at g p
    unfolding entry_at
    entry-same p h = rw (tail p h, channel_count-same)

    entries-same : (n p : ℕ) → q ≤ p → each (entry_at f) n 2 p ≡ each (entry_at g) n 2 p
    entries-same n p h = each_same (entry_at f) (entry_at g) n 2 p (λ i _. entry-same (p + i * 2) (omega arith))

    bank-same : (t p : ℕ) → q ≤ t → q ≤ p → bank_at f t p ≡ bank_at g t p
    unfolding bank_at bank_head
    bank-same t p h k =
        rw (tail t h, tail p k, banks_place-same, entry_count-same p k, entries-same (entry_count g p) (p + 34) (omega arith))

    -- a bank ends behind its beginning
    pub bank-later : (p : ℕ) → q ≤ p → q ≤ next_bank g p
    unfolding next_bank
    bank-later p h = omega arith

    banks-from-same : (n t p : ℕ) → q ≤ t → q ≤ p → banks_from f n t p ≡ banks_from g n t p
    unfolding banks_from
    banks-from-same zero t p h k = rw l
    banks-from-same (suc n) t p h k =
        rw (bank-same t p h k, next_bank-same p k, banks-from-same n (t + 4) (next_bank g p) (omega arith) (bank-later p k))

    -- where bank n starts
    bank-from-same : (n p : ℕ) → q ≤ p → (bank_from f n p ≡ bank_from g n p) × (q ≤ bank_from g n p)
    unfolding bank_from
    bank-from-same zero p h = (refl, h)
    bank-from-same (suc n) p h = rw (next_bank-same p h) (bank-from-same n (next_bank g p) (bank-later p h))

    -- q stands before the table
    module _ (before : q ≤ offset_place g 0) where
      table-first : offset_place g 0 ≤ banks_place g
      unfolding banks_place offset_place
      table-first = omega arith

      pub offsets-same : offsets_rule f ≡ offsets_rule g
      unfolding offsets_rule
      offsets-same =
          rw (bank_count-same, offset_place-same 0)
          (each_same (offset_at f) (offset_at g) (bank_count g) 4 (offset_place g 0) (λ i _. rw (tail (offset_place g 0 + i * 4) (omega arith))))

      pub banks-same : banks_rule f ≡ banks_rule g
      unfolding banks_rule
      banks-same =
          rw (bank_count-same, offset_place-same 0, banks_place-same)
          (banks-from-same (bank_count g) (offset_place g 0) (banks_place g) before (omega (arith, table-first)))

      pub bank_place-same : (n : ℕ) → (bank_place f n ≡ bank_place g n) × (q ≤ bank_place g n)
      unfolding bank_place
      bank_place-same n =
          rw banks_place-same (bank-from-same n (banks_place g) (omega (arith, table-first)))
