-- Laws of what both calls validate first.
use Prim.Native.Nat.{ℕ, ◌≤◌, ◌<◌}
use mathlib.Core.Path.{◌≡◌, refl, sym}
use mathlib.Core.Bool.{Bool, true, false, true≢false, ◌&&◌}
use mathlib.Core.List.{List}
use native.Mathlib.Omega.{arith}
use lib.ListN.{length, take}
use lib.Dec.{leb}
use borrow.Author.Tests.{le-leb, lt-leb, leb-true}
use Rattle.fields.specs.Rule.{Validity, Valid, Refused, ◌then◌, unless}
use Rattle.fields.proofs.Laws.{then-valid, unless-valid}
use Rattle.m17.specs.declared.Edition.{Edition}
use Rattle.file_rule.specs.File.{file_rule}
use Rattle.journal.specs.Entry.{Entries, whole, broken, entries_of}
use Rattle.journal.specs.History.{number_of_entries}
use Rattle.journal.specs.Machine.{State, whole_rule, file_of, history_of, buffers_rule}
use Rattle.edits.specs.Editing.{editing}
use Rattle.preconditions.specs.Calls.{state_of}
use Rattle.std.specs.Prelude.{None}
use Rattle.std.specs.Option.{is_some}
use Rattle.format.specs.declared.refusals.Reason.TheVariants as reason

-- ---- 31

-- the scan counts entries only where all are whole
pub whole_counted : (t : Entries) → unless (is_some (number_of_entries t)) reason.BadHistory 0 ≡ whole_rule t
unfolding number_of_entries whole_rule unless
whole_counted (whole es) = refl
whole_counted broken = refl

pub broken-by : (t : Entries) → number_of_entries t ≡ None → t ≡ broken
unfolding number_of_entries
broken-by (whole es) e = let z : ◌≡◌ {A = ℕ} 0 1 = cc in absurd (omega arith)
broken-by broken e = refl

-- ---- all three

pub preconditions-room : (ed : Edition) (d : List ℕ) (len : ℕ) (h : List ℕ) (used : ℕ) → length d < len → Refused reason.BadLength 0 ≡ buffers_rule (editing ed) (state_of d len h used)
unfolding buffers_rule unless ◌then◌
preconditions-room ed d len h used g = rw (lt-leb len (length d) g)

pub preconditions-history : (ed : Edition) (d : List ℕ) (len : ℕ) (h : List ℕ) (used : ℕ) → len ≤ length d → length h < used
    → Refused reason.BadLength 0 ≡ buffers_rule (editing ed) (state_of d len h used)
unfolding buffers_rule unless ◌then◌
preconditions-history ed d len h used f g = rw (le-leb len (length d) f, lt-leb used (length h) g)

pub preconditions-both : (ed : Edition) (d : List ℕ) (len : ℕ) (h : List ℕ) (used : ℕ) (v w r : Validity) → len ≤ length d → used ≤ length h → v ≡ file_rule ed (take len d)
    → w ≡ whole_rule (entries_of (take used h)) → r ≡ v then w → r ≡ buffers_rule (editing ed) (state_of d len h used)
unfolding buffers_rule unless ◌then◌ file_of history_of
preconditions-both ed d len h used v w r f g e i j = rw (le-leb len (length d) f, le-leb used (length h) g, ← e, ← i) j

pub and_both : (a b : Bool) → a && b ≡ true → (a ≡ true) × (b ≡ true)
and_both true true e = (refl, refl)
and_both true false e = absurd (true≢false (sym e))
and_both false b e = absurd (true≢false (sym e))

pub lengths-inside : (len room used history : ℕ) → unless (leb len room && leb used history) reason.BadLength 0 ≡ Valid
    → (len ≤ room) × (used ≤ history)
lengths-inside len room used history e =
    let a = and_both (leb len room) (leb used history) (unless-valid _ reason.BadLength 0 e) in
    (leb-true len room a.0, leb-true used history a.1)

-- buffers that meet the preconditions
pub preconditions-inside : (ed : Edition) (d : List ℕ) (len : ℕ) (h : List ℕ) (used : ℕ) → buffers_rule (editing ed) (state_of d len h used) ≡ Valid
    → (len ≤ length d) × (used ≤ length h)
unfolding buffers_rule
preconditions-inside ed d len h used e = lengths-inside len (length d) used (length h) (then-valid _ _ e).0

whole-held : (t : Entries) → whole_rule t ≡ Valid → number_of_entries t ≡ None → ⊥
unfolding number_of_entries whole_rule
whole-held (whole es) e b = let z : ◌≡◌ {A = ℕ} 0 1 = cc in absurd (omega arith)
whole-held broken e b = let z : ◌≡◌ {A = ℕ} 0 1 = cc in absurd (omega arith)

preconditions-whole : (ed : Edition) (m : State) → buffers_rule (editing ed) m ≡ Valid → whole_rule (history_of m) ≡ Valid
unfolding buffers_rule
preconditions-whole ed m e = (then-valid _ _ (then-valid _ _ e).1).1

pub preconditions-entries : (ed : Edition) (m : State) → buffers_rule (editing ed) m ≡ Valid → number_of_entries (history_of m) ≡ None → ⊥
preconditions-entries ed m e = whole-held (history_of m) (preconditions-whole ed m e)
