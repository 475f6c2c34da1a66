-- Laws of the walks that look for a contact or a channel in use: what is left from the m-th of n records on answers for all.
use Prim.Native.Nat.{ℕ, suc, ◌+◌, ◌-◌, ◌≤◌, ◌<◌}
use mathlib.Core.Path.{◌≡◌, refl, sym, ◌∙◌}
use mathlib.Core.Bool.{Bool, true, false, ◌||◌}
use mathlib.Core.List.{List}
use native.Mathlib.Omega.{arith}
use lib.ListN.{drop}
use lib.Dec.{eqb}
use lib.Seq.{drop-drop}
use borrow.Author.Tests.{eq-eqb, ne_eqb}
use Rattle.fields.specs.Bytes.{part, num}
use Rattle.channel.specs.Rule.{named_contact}
use Rattle.layout.specs.Banks.{entry_count, next_bank}
use Rattle.model.specs.Codeplug.{blocks, indexes_at, banks_at}
use Rattle.model.specs.EditRules.{is_index, some_names, holds_channel, some_holds}
use Rattle.std.specs.Prelude.{Option}

-- ---- one step of a walk: all is the answer, b the record's, s what is left

or-found : (all b s : Bool) → all ≡ (b || s) → b ≡ true → true ≡ all
or-found all b s e g = sym (e ∙ rw g)

or-next : (all b s : Bool) → all ≡ (b || s) → b ≡ false → all ≡ s
or-next all b s e g = e ∙ rw g

-- ---- channels that name contact i

pub names_none : (i n m p : ℕ) (f : List ℕ) → n ≤ m → some_names i (blocks 90 (n - m) (drop p f)) ≡ false
unfolding some_names blocks
names_none i n m p f h = let z : n - m ≡ 0 = omega arith in rw z

names-suc : (i n p : ℕ) (f : List ℕ) → some_names i (blocks 90 (suc n) (drop p f))
    ≡ (is_index i (named_contact (part f p 90)) || some_names i (blocks 90 n (drop (p + 90) f)))
unfolding some_names blocks
names-suc i n p f = rw (drop-drop 90 p f)

names-step : (i n m p : ℕ) (f : List ℕ) → m < n → some_names i (blocks 90 (n - m) (drop p f))
    ≡ (is_index i (named_contact (part f p 90)) || some_names i (blocks 90 (n - (m + 1)) (drop (p + 90) f)))
names-step i n m p f h =
    let e : n - m ≡ suc (n - (m + 1)) = omega arith in
    rw e (names-suc i (n - (m + 1)) p f)

-- the channel at p is s, its contact index x
pub names_found : (i n m p : ℕ) (f : List ℕ) (all b : Bool) (s : List ℕ) (x : Option ℕ) → m < n
    → all ≡ some_names i (blocks 90 (n - m) (drop p f)) → s ≡ part f p 90 → x ≡ named_contact s → b ≡ is_index i x → b ≡ true → true ≡ all
names_found i n m p f all b s x h e ds dx db g =
    or-found all (is_index i (named_contact (part f p 90))) (some_names i (blocks 90 (n - (m + 1)) (drop (p + 90) f)))
    (e ∙ names-step i n m p f h) (rw (← ds, ← dx, ← db) g)

pub names_next : (i n m p q : ℕ) (f : List ℕ) (all b : Bool) (s : List ℕ) (x : Option ℕ) → m < n
    → all ≡ some_names i (blocks 90 (n - m) (drop p f)) → s ≡ part f p 90 → x ≡ named_contact s → b ≡ is_index i x → b ≡ false → q ≡ p + 90
    → all ≡ some_names i (blocks 90 (n - (m + 1)) (drop q f))
names_next i n m p q f all b s x h e ds dx db g dq =
    rw dq
    (or-next all (is_index i (named_contact (part f p 90))) (some_names i (blocks 90 (n - (m + 1)) (drop (p + 90) f)))
    (e ∙ names-step i n m p f h) (rw (← ds, ← dx, ← db) g))

-- ---- entries that are channel i

pub holds_none : (i n m p : ℕ) (f : List ℕ) → n ≤ m → holds_channel i (indexes_at f (n - m) p) ≡ false
unfolding holds_channel indexes_at
holds_none i n m p f h = let z : n - m ≡ 0 = omega arith in rw z

holds-suc : (i n p : ℕ) (f : List ℕ) → holds_channel i (indexes_at f (suc n) p) ≡ (eqb (num f p 2) i || holds_channel i (indexes_at f n (p + 2)))
unfolding holds_channel indexes_at
holds-suc i n p f = refl

holds-step : (i n m p : ℕ) (f : List ℕ) → m < n
    → holds_channel i (indexes_at f (n - m) p) ≡ (eqb (num f p 2) i || holds_channel i (indexes_at f (n - (m + 1)) (p + 2)))
holds-step i n m p f h =
    let e : n - m ≡ suc (n - (m + 1)) = omega arith in
    rw e (holds-suc i (n - (m + 1)) p f)

pub holds_found : (i n m p : ℕ) (f : List ℕ) (all : Bool) (x : ℕ) → m < n → all ≡ holds_channel i (indexes_at f (n - m) p) → x ≡ num f p 2
    → x ≡ i → true ≡ all
holds_found i n m p f all x h e d g =
    or-found all (eqb (num f p 2) i) (holds_channel i (indexes_at f (n - (m + 1)) (p + 2)))
    (e ∙ holds-step i n m p f h) (eq-eqb (num f p 2) i (sym d ∙ g))

pub holds_next : (i n m p q : ℕ) (f : List ℕ) (all : Bool) (x : ℕ) → m < n → all ≡ holds_channel i (indexes_at f (n - m) p) → x ≡ num f p 2
    → (x ≡ i → ⊥) → q ≡ p + 2 → all ≡ holds_channel i (indexes_at f (n - (m + 1)) q)
holds_next i n m p q f all x h e d g dq =
    rw dq
    (or-next all (eqb (num f p 2) i) (holds_channel i (indexes_at f (n - (m + 1)) (p + 2)))
    (e ∙ holds-step i n m p f h) (ne_eqb (num f p 2) i (λ a. g (d ∙ a))))

-- ---- banks that hold channel i

pub banks_none : (i n m p : ℕ) (f : List ℕ) → n ≤ m → some_holds i (banks_at f (n - m) p) ≡ false
unfolding some_holds banks_at
banks_none i n m p f h = let z : n - m ≡ 0 = omega arith in rw z

banks-suc : (i n p : ℕ) (f : List ℕ) → some_holds i (banks_at f (suc n) p)
    ≡ (holds_channel i (indexes_at f (entry_count f p) (p + 34)) || some_holds i (banks_at f n (next_bank f p)))
unfolding some_holds banks_at
banks-suc i n p f = refl

banks-step : (i n m p : ℕ) (f : List ℕ) → m < n → some_holds i (banks_at f (n - m) p)
    ≡ (holds_channel i (indexes_at f (entry_count f p) (p + 34)) || some_holds i (banks_at f (n - (m + 1)) (next_bank f p)))
banks-step i n m p f h =
    let e : n - m ≡ suc (n - (m + 1)) = omega arith in
    rw e (banks-suc i (n - (m + 1)) p f)

-- the bank at p has k entries
pub banks_found : (i n m p : ℕ) (f : List ℕ) (all b : Bool) (k : ℕ) → m < n → all ≡ some_holds i (banks_at f (n - m) p)
    → k ≡ entry_count f p → b ≡ holds_channel i (indexes_at f k (p + 34)) → b ≡ true → true ≡ all
banks_found i n m p f all b k h e dk db g =
    or-found all (holds_channel i (indexes_at f (entry_count f p) (p + 34))) (some_holds i (banks_at f (n - (m + 1)) (next_bank f p)))
    (e ∙ banks-step i n m p f h) (rw (← dk, ← db) g)

pub banks_next : (i n m p : ℕ) (f : List ℕ) (all b : Bool) (k q : ℕ) → m < n → all ≡ some_holds i (banks_at f (n - m) p)
    → k ≡ entry_count f p → b ≡ holds_channel i (indexes_at f k (p + 34)) → b ≡ false → q ≡ next_bank f p
    → all ≡ some_holds i (banks_at f (n - (m + 1)) q)
banks_next i n m p f all b k q h e dk db g dq =
    rw dq
    (or-next all (holds_channel i (indexes_at f (entry_count f p) (p + 34))) (some_holds i (banks_at f (n - (m + 1)) (next_bank f p)))
    (e ∙ banks-step i n m p f h) (rw (← dk, ← db) g))
