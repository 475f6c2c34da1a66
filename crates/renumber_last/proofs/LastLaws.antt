-- Laws of the last index that moves: one index, and an iteration of a loop over a run of records.
use Prim.Native.Nat.{ℕ, ◌+◌, ◌*◌, ◌≤◌, ◌<◌}
use mathlib.Core.Path.{◌≡◌, ap, sym, ◌∙◌}
use mathlib.Core.List.{List, [], ◌++◌, map}
use native.Mathlib.Omega.{arith}
use lib.ListN.{length, drop}
use Rattle.fields.specs.Bytes.{part, num, little, over, little_bytes}
use Rattle.fields.proofs.Laws.{AllBytes, over_none, part-over, length_over, length_part, little_bytes-num, little-little_bytes, length-little_bytes}
use Rattle.buffers.proofs.Laws.{over-ahead}
use Rattle.layout.specs.Banks.{entry_count, bank_from}
use Rattle.model.specs.Codeplug.{pairs, indexes_at, blocks, joined}
use Rattle.model.specs.Edits.{move_contact}
use Rattle.renumber.specs.Moved.{channels_moved, banks_moved}
use Rattle.renumber_last.specs.Last.{LastMoved}
use Rattle.renumber.proofs.Laws.{drop-over-behind, over-self, moved-wide, length-channels_moved, channels_moved-last, length_run, run-last}
use Rattle.renumber.proofs.Laws.{bank_moved, bank-over, bank-ends, length-bank_moved, banks_moved-last, length-banks_moved}
use Rattle.std.specs.Prelude.{Some, None, Option}
use Rattle.std.specs.Option.{option_or}

-- ---- one index: x is the index at p, y where it moves to

-- it stays
pub index_stays : (g : ℕ → ℕ) (f : List ℕ) (p x y : ℕ) → AllBytes f → p + 2 ≤ length f → x ≡ num f p 2 → y ≡ g x → y ≡ x
    → LastMoved g f (over f p (little_bytes 2 (g (num f p 2)))) p None
unfolding LastMoved
index_stays g f p x y b h ex ey e =
    let z : g (num f p 2) ≡ num f p 2 = ap g (sym ex) ∙ (sym ey ∙ (e ∙ ex)) in
    rw (z, little_bytes-num f p 2 b h) (over-self f p 2 h)

-- it moves
pub index_moves : (g : ℕ → ℕ) (f : List ℕ) (p x y : ℕ) → p + 2 ≤ length f → g (num f p 2) < 65536 → x ≡ num f p 2 → y ≡ g x → (y ≡ x → ⊥)
    → LastMoved g f (over f p (little_bytes 2 (g (num f p 2)))) p (Some p)
unfolding LastMoved
index_moves g f p x y h s ex ey n =
    let z = g (num f p 2) in
    let l = length-little_bytes 2 z in
    record {
      starts = omega arith;
      inside = h;
      behind = drop-over-behind f p (little_bytes 2 z) (p + 2) (omega arith) (omega arith);
      index = ap little (part-over f p (little_bytes 2 z) 2 (omega arith) l) ∙ little-little_bytes 2 z s;
      moved = λ q. n (ey ∙ (ap g ex ∙ (q ∙ sym ex)));
    }

-- ---- a run of records

pub last_none : (g : ℕ → ℕ) (f : List ℕ) (p : ℕ) → LastMoved g f (over f p []) p None
unfolding LastMoved
last_none g f p = sym (over_none f p)

-- the same renumbering, written another way and from an earlier place on
pub last_from : (g : ℕ → ℕ) (f h k : List ℕ) (p q : ℕ) (r : Option ℕ) → q ≤ p → h ≡ k → LastMoved g f h p r → LastMoved g f k q r
unfolding LastMoved
last_from g f h k p q None o e u = sym e ∙ u
last_from g f h k p q (Some l) o e u =
    record {
      starts = omega (arith, u.starts);
      inside = u.inside;
      behind = rw (← e) u.behind;
      index = rw (← e) u.index;
      moved = u.moved;
    }

-- h is f renumbered from p on; then a is written before that
last-later : (g : ℕ → ℕ) (f h a : List ℕ) (start p : ℕ) (r q : Option ℕ) → p ≡ start + length a → p ≤ length h
    → LastMoved g f (over f start a) start r → LastMoved g f h p q → LastMoved g f (over h start a) start (option_or q r)
unfolding LastMoved
last-later g f h a start p r None s i u v = rw v u
last-later g f h a start p r (Some l) s i u v =
    let o : p ≤ l = v.starts in
    let at : drop l (over h start a) ≡ drop l h = drop-over-behind h start a l (omega arith) (omega arith) in
    record {
      starts = omega arith;
      inside = v.inside;
      behind = drop-over-behind h start a (l + 2) (omega arith) (omega arith) ∙ v.behind;
      index = rw at v.index;
      moved = v.moved;
    }

-- a at `start` and then b at p, right behind it: t is the last of both
pub last_step : (g : ℕ → ℕ) (f a b c : List ℕ) (start p : ℕ) (r q t : Option ℕ) → p ≡ start + length a → p + length b ≤ length f → a ++ b ≡ c
    → LastMoved g f (over f start a) start r → LastMoved g f (over f p b) p q → t ≡ option_or q r → LastMoved g f (over f start c) start t
last_step g f a b c start p r q t s h x u v w =
    let e : over (over f p b) start a ≡ over f start c = over-ahead f start a p b s (omega arith) ∙ ap (λ (l : List ℕ). over f start l) x in
    rw w
    (last_from g f (over (over f p b) start a) (over f start c) start start (option_or q r) (omega arith) e
    (last-later g f (over f p b) a start p r q s (rw (length_over f p b h) (omega arith)) u v))

-- ---- before each loop, and a turn of it, at the i-th record, which stands at p

pub contacts_none : (g : ℕ → ℕ) (f : List ℕ) (start : ℕ) → LastMoved g f (over f start (channels_moved g f 0 start)) start None
unfolding channels_moved blocks joined
contacts_none g f start = last_none g f start

pub contacts_last : (g : ℕ → ℕ) (f : List ℕ) (start i p : ℕ) (r q t : Option ℕ) → p ≡ start + i * 90 → start + i * 90 + 90 ≤ length f
    → LastMoved g f (over f start (channels_moved g f i start)) start r → LastMoved g f (over f p (move_contact g (part f p 90))) p q
    → t ≡ option_or q r → LastMoved g f (over f start (channels_moved g f (i + 1) start)) start t
contacts_last g f start i p r q t at h u v w =
    let n = length-channels_moved g f i start (omega arith) in
    let m = moved-wide g (part f p 90) (length_part f p 90 (omega arith)) in
    last_step g f (channels_moved g f i start) (move_contact g (part f p 90)) (channels_moved g f (i + 1) start) start p r q t
    (omega arith) (omega arith) (rw at (channels_moved-last g f i start)) u v w

pub run_last : (g : ℕ → ℕ) (f : List ℕ) (start i p : ℕ) (r q t : Option ℕ) → p ≡ start + i * 2 → start + i * 2 + 2 ≤ length f
    → LastMoved g f (over f start (pairs (map g (indexes_at f i start)))) start r
    → LastMoved g f (over f p (little_bytes 2 (g (num f p 2)))) p q → t ≡ option_or q r
    → LastMoved g f (over f start (pairs (map g (indexes_at f (i + 1) start)))) start t
run_last g f start i p r q t at h u v w =
    let n = length_run g f i start in
    let m = length-little_bytes 2 (g (num f p 2)) in
    last_step g f (pairs (map g (indexes_at f i start))) (little_bytes 2 (g (num f p 2))) (pairs (map g (indexes_at f (i + 1) start))) start p r q t
    (omega arith) (omega arith) (rw at (run-last g f i start)) u v w

-- the bank at p has k entries
pub entries_last : (g : ℕ → ℕ) (f : List ℕ) (start i p k : ℕ) (r q t : Option ℕ) → AllBytes f → p ≡ bank_from f i start
    → p + 34 + k * 2 ≤ length f → k ≡ entry_count f p
    → LastMoved g f (over f start (banks_moved g f i start)) start r
    → LastMoved g f (over f (p + 34) (pairs (map g (indexes_at f k (p + 34))))) (p + 34) q → t ≡ option_or q r
    → LastMoved g f (over f start (banks_moved g f (i + 1) start)) start t
entries_last g f start i p k r q t b at h c u v w =
    let e : bank_from f (i + 1) start ≡ p + 34 + entry_count f p * 2 = rw at (bank-ends f i start) in
    let n : start + length (banks_moved g f i start) ≡ bank_from f i start = length-banks_moved g f i start b (omega arith) in
    let m = length-bank_moved g f p (omega arith) in
    let o : over f (p + 34) (pairs (map g (indexes_at f k (p + 34)))) ≡ over f p (bank_moved g f p) = rw c (bank-over g f p (omega arith)) in
    last_step g f (banks_moved g f i start) (bank_moved g f p) (banks_moved g f (i + 1) start) start p r q t
    (omega arith) (omega arith) (rw at (banks_moved-last g f i start b (omega arith))) u
    (last_from g f (over f (p + 34) (pairs (map g (indexes_at f k (p + 34))))) (over f p (bank_moved g f p)) (p + 34) p q (omega arith) o v) w
