-- Laws of what a plan makes of a file: how long it is.
use Prim.Native.Nat.{ℕ, ◌+◌, ◌*◌, ◌-◌, ◌≤◌}
use mathlib.Core.Path.{◌≡◌, ◌∙◌}
use mathlib.Core.List.{List}
use native.Mathlib.Omega.{arith}
use lib.ListN.{length, length-append, length-drop}
use lib.Seq.{length-take-le}
use Rattle.fields.specs.Bytes.{little_bytes}
use Rattle.fields.proofs.Laws.{AllBytes, length_over, length-little_bytes}
use Rattle.buffers.specs.Cut.{cut}
use Rattle.layout.specs.Places.{channel_count, bank_count, channel_place, banks_place}
use Rattle.layout.specs.Banks.{bank_from}
use Rattle.renumber.specs.Shift.{growth_of}
use Rattle.renumber.specs.Moved.{channels_moved, banks_moved, offsets_moved, contacts_follow, entries_follow}
use Rattle.renumber.proofs.Laws.{length-channels_moved, length-banks_moved, length-offsets_moved}
use Rattle.plan.specs.Plan.{counted, table_moved}
use Rattle.plan.specs.declared.Counted.{Counted}
use Rattle.plan.specs.declared.Table.{Table}

-- ---- lengths: a cut, a cut with its count, indexes and offsets moved

pub length_cut : (f : List ℕ) (p k : ℕ) (s : List ℕ) → p + k ≤ length f → length (cut f p k s) ≡ length f - k + length s
unfolding cut
length_cut f p k s h =
    let g : p ≤ length f = omega arith in
    rw (length-append, length-append, length-take-le p f g, length-drop) (omega arith)

pub length-counted : (c : Counted) (r f : List ℕ) → c.counter + 2 ≤ c.at → c.at + c.gone ≤ length f
    → length (counted c r f) ≡ length f - c.gone + length r
unfolding counted
length-counted c r f a b =
    let l = length_cut f c.at c.gone r b in
    let m = length-little_bytes 2 c.count in
    length_over (cut f c.at c.gone r) c.counter (little_bytes 2 c.count) (omega arith) ∙ l

pub length-table_moved : (t : Table) (f : List ℕ) → t.start + t.many * 4 ≤ length f → length (table_moved t f) ≡ length f
unfolding table_moved
length-table_moved t f h =
    let m = offsets_moved t.many (growth_of t.growth) f t.start in
    let l = length-offsets_moved t.many (growth_of t.growth) f t.start in
    length_over f t.start m (omega arith)

pub length-contacts_follow : (g : ℕ → ℕ) (f : List ℕ) → channel_place f 0 + channel_count f * 90 ≤ length f → length (contacts_follow g f) ≡ length f
unfolding contacts_follow
length-contacts_follow g f h =
    let m = channels_moved g f (channel_count f) (channel_place f 0) in
    let l = length-channels_moved g f (channel_count f) (channel_place f 0) h in
    length_over f (channel_place f 0) m (omega arith)

pub length-entries_follow : (g : ℕ → ℕ) (f : List ℕ) → AllBytes f → bank_from f (bank_count f) (banks_place f) ≤ length f
    → length (entries_follow g f) ≡ length f
unfolding entries_follow
length-entries_follow g f b h =
    let m = banks_moved g f (bank_count f) (banks_place f) in
    let l = length-banks_moved g f (bank_count f) (banks_place f) b h in
    length_over f (banks_place f) m (omega arith)

-- ---- the banks, told by two numbers

pub banks-inside : (f : List ℕ) (start n : ℕ) → start ≡ banks_place f → n ≡ bank_count f
    → bank_from f (bank_count f) (banks_place f) ≤ length f → bank_from f n start ≤ length f
banks-inside f start n a b h = rw (a, b) h
