-- Laws of a cut whose contact indexes or bank entries follow.
use Prim.Native.Nat.{ℕ, zero, suc, ◌+◌, ◌≤◌}
use mathlib.Core.Path.{◌≡◌, ap}
use mathlib.Core.Bool.{Bool, true, false, cond}
use mathlib.Core.List.{List, map, ◌++◌}
use native.Mathlib.Omega.{arith}
use native.Mathlib.Numerals.{add-one}
use lib.ListN.{length, get_or, drop}
use lib.Dec.{eqb}
use Rattle.fields.specs.Bytes.{part, num, over, little_bytes}
use Rattle.fields.proofs.Laws.{AllBytes, bytes-nil, bytes-append, bytes-part, bytes-over, bytes_drop, bytes-little_bytes, length_over}
use Rattle.buffers.proofs.Laws.{take-over-before}
use Rattle.journal.specs.Change.{entry_of}
use Rattle.journal.specs.Span.{span_of}
use Rattle.journal.specs.declared.recording.Span.{Span}
use Rattle.layout.specs.Places.{channel_count, bank_count, channel_place, banks_place}
use Rattle.layout.specs.Banks.{entry_count, bank_from}
use Rattle.model.specs.Codeplug.{blocks, pairs, indexes_at}
use Rattle.model.specs.Edits.{move_contact, with_index_at}
use Rattle.model.proofs.Blocks.{every_map, bytes-joined, bytes-blocks, bytes-pairs}
use Rattle.renumber.specs.Shift.{shift_of}
use Rattle.renumber.specs.Moved.{channels_moved, banks_moved, contacts_follow, entries_follow}
use Rattle.renumber_last.specs.Last.{Apart, LastMoved}
use Rattle.renumber.specs.declared.shift.Shift.{Shift}
use Rattle.renumber.proofs.Laws.{length-channels_moved, length-banks_moved, banks_moved-none, banks_moved-last, bank_moved, bank-ends}
use Rattle.plan.specs.declared.Counted.{Counted}
use Rattle.plan.specs.declared.Plan.TheVariants.{Contacts, Channels}
use Rattle.plan.specs.Plan.{counted, planned}
use Rattle.plan.specs.Fits.{CountedFits, Fits}
use Rattle.plan_span.specs.Measure.{apart_span}
use Rattle.plan_span.proofs.ApartLaws.{apart-change}
use Rattle.std.specs.Prelude.{Some, None, Option}

-- ---- bytes

bytes-cond : (t : Bool) (a b : List ℕ) → AllBytes a → AllBytes b → AllBytes (cond t a b)
bytes-cond true a b f g = f
bytes-cond false a b f g = g

bytes-index : (g : ℕ → ℕ) (s : List ℕ) (k : ℕ) → AllBytes s → AllBytes (over s k (little_bytes 2 (g (num s k 2))))
bytes-index g s k b = bytes-over s k (little_bytes 2 (g (num s k 2))) b (bytes-little_bytes 2 (g (num s k 2)))

bytes-contact : (g : ℕ → ℕ) (s : List ℕ) → AllBytes s → AllBytes (move_contact g s)
unfolding move_contact with_index_at
bytes-contact g s b =
    let m = over s 88 (little_bytes 2 (g (num s 88 2))) in
    bytes-cond (eqb (get_or s 0 0) 1) (over s 87 (little_bytes 2 (g (num s 87 2)))) (cond (eqb (get_or s 0 0) 2) m s) (bytes-index g s 87 b)
    (bytes-cond (eqb (get_or s 0 0) 2) m s (bytes-index g s 88 b) b)

bytes-channels : (g : ℕ → ℕ) (f : List ℕ) (n p : ℕ) → AllBytes f → AllBytes (channels_moved g f n p)
unfolding channels_moved
bytes-channels g f n p b =
    let l = blocks 90 n (drop p f) in
    bytes-joined (map (move_contact g) l)
    (every_map AllBytes AllBytes (move_contact g) l (bytes-contact g) (bytes-blocks 90 n (drop p f) (bytes_drop p f b)))

bytes-banks : (g : ℕ → ℕ) (f : List ℕ) (n p : ℕ) → AllBytes f → bank_from f n p ≤ length f → AllBytes (banks_moved g f n p)
bytes-banks g f zero p b h = rw (banks_moved-none g f p) bytes-nil
bytes-banks g f (suc n) p b h =
    let i : bank_from f (n + 1) p ≤ length f = rw (add-one n) h in
    let q = bank_from f n p in
    let r = map g (indexes_at f (entry_count f q) (q + 34)) in
    let j : q ≤ length f = omega (arith, bank-ends f n p) in
    let a : AllBytes (banks_moved g f n p ++ bank_moved g f q) =
    bytes-append (banks_moved g f n p) (bank_moved g f q) (bytes-banks g f n p b j)
    (bytes-append (part f q 34) (pairs r) (bytes-part f q 34 b) (bytes-pairs r))
    in
    rw (banks_moved-last g f n p b i, add-one n) at a

-- ---- what the last index that moves, o, tells of a cut and its count

pub record Renumbered (s : Shift) (c : Counted) (r f new : List ℕ) (o : Option ℕ) : Type 0 where
  pub whole : CountedFits c f (length f)
  pub none : o ≡ None → new ≡ counted c r f
  pub inside : (l : ℕ) → o ≡ Some l → l + 2 ≤ length f
  pub fits : (l : ℕ) → o ≡ Some l → CountedFits c f l
  pub span : (l x : ℕ) (w : Span) → o ≡ Some l → x ≡ shift_of s (num f l 2) → w ≡ apart_span c r f l x → w ≡ span_of (entry_of f new)

-- a cut that stands in the first `end` bytes stands in more of them
fits_more : (c : Counted) (f : List ℕ) (end more : ℕ) → CountedFits c f end → end ≤ more → more ≤ length f → CountedFits c f more
fits_more c f end more h a b = record { before = h.before; inside = omega (arith, h.inside); end-inside = b; changes = h.changes }

-- m is written over the renumbered part
renumbered : (s : Shift) (c : Counted) (r f m : List ℕ) (from : ℕ) (o : Option ℕ) → CountedFits c f from → from + length m ≤ length f → AllBytes f
    → AllBytes m → LastMoved (shift_of s) f (over f from m) from o → Renumbered s c r f (counted c r (over f from m)) o
unfolding LastMoved
renumbered s c r f m from o fits h bf bm u =
    let a : (l : ℕ) → o ≡ Some l → Apart (shift_of s) f (over f from m) from l = λ l e. rw e at u in
    record {
      whole = fits_more c f from (length f) fits fits.end-inside (omega arith);
      none = λ e. ap (counted c r) (rw e at u);
      inside = λ l e. (a l e).inside;
      fits = λ l e. fits_more c f from l fits (a l e).starts (omega (arith, (a l e).inside));
      span =
          λ l x w e.
          apart-change s c r f (over f from m) from l x w (a l e) fits (take-over-before f from m from (omega arith) (omega arith))
          (length_over f from m h) (bytes-over f from m bf bm);
    }

-- the contact indexes of n channels at `start`
pub contacts-follow : (s : Shift) (c : Counted) (r f : List ℕ) (start n : ℕ) (o : Option ℕ) → start ≡ channel_place f 0 → n ≡ channel_count f
    → LastMoved (shift_of s) f (over f start (channels_moved (shift_of s) f n start)) start o → Fits (Contacts s c) r f → AllBytes f
    → Renumbered s c r f (planned (Contacts s c) r f) o
unfolding planned contacts_follow Fits
contacts-follow s c r f start n o es en u h b =
    let p = channel_place f 0 in
    let k = channel_count f in
    let j = length-channels_moved (shift_of s) f k p h.1.0 in
    renumbered s c r f (channels_moved (shift_of s) f k p) p o h.0 (omega arith) b (bytes-channels (shift_of s) f k p b) (rw (es, en) at u)

-- the entries of n banks at `start`
pub entries-follow : (s : Shift) (c : Counted) (r f : List ℕ) (start n : ℕ) (o : Option ℕ) → start ≡ banks_place f → n ≡ bank_count f
    → LastMoved (shift_of s) f (over f start (banks_moved (shift_of s) f n start)) start o → Fits (Channels s c) r f → AllBytes f
    → Renumbered s c r f (planned (Channels s c) r f) o
unfolding planned entries_follow Fits
entries-follow s c r f start n o es en u h b =
    let p = banks_place f in
    let k = bank_count f in
    let j = length-banks_moved (shift_of s) f k p b h.1.0 in
    renumbered s c r f (banks_moved (shift_of s) f k p) p o h.0 (omega arith) b (bytes-banks (shift_of s) f k p b h.1.0) (rw (es, en) at u)
