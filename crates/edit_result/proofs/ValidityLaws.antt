-- Laws of the validity of an edit's result: what the places of an edit say, where a bank starts, and a channel that keeps its contact's mode.
use Prim.Native.Nat.{ℕ, ◌+◌, ◌≤◌, ◌<◌}
use mathlib.Core.Path.{◌≡◌, ap, sym, ◌∙◌}
use mathlib.Core.Bool.{Bool, true, false, ◌&&◌}
use mathlib.Core.List.{List}
use native.Mathlib.Omega.{arith}
use lib.ListN.{length, get_or}
use lib.Seq.{take_all}
use lib.Dec.{ltb, eqb}
use borrow.Author.Tests.{leb-true}
use Rattle.fields.specs.Bytes.{part, num, little}
use Rattle.fields.specs.Rule.{◌then◌, unless, Validity, Valid}
use Rattle.fields.proofs.Laws.{valid-then, err_then}
use Rattle.bits.proofs.Laws.{and_right}
use Rattle.channel.specs.Values.{contact_index_place}
use Rattle.channel.specs.Rule.{named_contact}
use Rattle.layout.specs.Places.{channel_count, bank_count}
use Rattle.layout.specs.Banks.{bank_place}
use Rattle.layout.proofs.Laws.{contact_count-lt, channel_count-lt, entry_count-lt}
use Rattle.model.specs.Codeplug.{codeplug_of}
use Rattle.model.specs.Kinds.{record_length}
use Rattle.model.specs.HasLayout.{HasLayout}
use Rattle.model.specs.EditRules.{place_ok, entries_in, is_index}
use Rattle.model.specs.declared.Kind.{Kind}
use Rattle.model.specs.declared.Kind.TheVariants.{InsertContact, RemoveContact, ReplaceContact, InsertChannel, RemoveChannel, ReplaceChannel, InsertBank, RemoveBank, RenameBank, InsertEntry, RemoveEntry, SetHeader}
use Rattle.edits.specs.ResultValidity.{index_place, keeps_mode, may_grow, result_rule}
use Rattle.edit_result.specs.Growth.{growth_rule}
use Rattle.m17.specs.declared.Edition.{Edition}
use Rattle.edits.proofs.EditShape.{up_to, below}
use Rattle.model.proofs.PlaceLaws.{contacts-count, channels-count, banks-count, entries_at}
use Rattle.std.specs.Prelude.{Option, Err}
use Rattle.format.specs.declared.refusals.Reason.TheVariants as reason
use Rattle.format.specs.declared.refusals.Refusal.{Refusal}

-- ---- one validity, then another

pub first-bad : (a b v : Validity) (x : Refusal) → v ≡ a → v ≡ Err x → v ≡ a then b
first-bad a b v x e g = g ∙ sym (ap (λ (y : Validity). y then b) (sym e ∙ g) ∙ err_then x b)

pub first_rest : (a b v w : Validity) → v ≡ a → v ≡ Valid → w ≡ b → w ≡ a then b
first_rest a b v w e g d = d ∙ sym (valid-then a b (sym e ∙ g))

-- ---- an edit of a file that may not grow

valid-err : {A : Type 0} (e : Refusal) → ◌≡◌ {A = Validity} Valid (Err e) → A
valid-err e g = let z : ◌≡◌ {A = ℕ} 0 1 = cc in absurd (omega arith)

-- so its result is refused, whatever the record is
pub growth_refused : (ed : Edition) (k : Kind) (i j : ℕ) (r f : List ℕ) (e : Refusal) → growth_rule k f ≡ Err e → result_rule ed k i j r f ≡ Err e
unfolding may_grow unless ◌then◌
growth_refused ed InsertContact i j r f e g = rw g
growth_refused ed RemoveContact i j r f e g = valid-err e g
growth_refused ed ReplaceContact i j r f e g = valid-err e g
growth_refused ed InsertChannel i j r f e g = rw g
growth_refused ed RemoveChannel i j r f e g = valid-err e g
growth_refused ed ReplaceChannel i j r f e g = valid-err e g
growth_refused ed InsertBank i j r f e g = rw g
growth_refused ed RemoveBank i j r f e g = valid-err e g
growth_refused ed RenameBank i j r f e g = valid-err e g
growth_refused ed InsertEntry i j r f e g = rw g
growth_refused ed RemoveEntry i j r f e g = valid-err e g
growth_refused ed SetHeader i j r f e g = valid-err e g

-- ---- the places of an edit

module _ (k : Kind) (i j : ℕ) (f : List ℕ) (h : place_ok k i j (codeplug_of f) ≡ true) where
  pub remove-channel-place : k ≡ RemoveChannel → i < channel_count f
  remove-channel-place e =
      let g : (ltb i (length (codeplug_of f).channels) && eqb j 0) ≡ true = rw e at h in
      omega (arith, below i (length (codeplug_of f).channels) _ g, channels-count f)

  pub remove-bank-place : k ≡ RemoveBank → i < bank_count f
  remove-bank-place e =
      let g : (ltb i (length (codeplug_of f).banks) && eqb j 0) ≡ true = rw e at h in
      omega (arith, below i (length (codeplug_of f).banks) _ g, banks-count f)

-- what each kind's validation asks
abbrev pub Asks : Kind → ℕ → ℕ → List ℕ → List ℕ → Type 0
Asks InsertContact i j r f = i < 65536
Asks RemoveContact i j r f = Unit {0}
Asks ReplaceContact i j r f = i < 65536
Asks InsertChannel i j r f = i < 65536
Asks RemoveChannel i j r f = Unit {0}
Asks ReplaceChannel i j r f = i < 65536
Asks InsertBank i j r f = HasLayout f × ((i ≤ bank_count f) × (length r ≡ 32))
Asks RemoveBank i j r f = Unit {0}
Asks RenameBank i j r f = HasLayout f × ((i ≤ bank_count f) × (length r ≡ 32))
Asks InsertEntry i j r f = HasLayout f × ((i ≤ bank_count f) × ((j < 65536) × (length r ≡ 2)))
Asks RemoveEntry i j r f = Unit {0}
Asks SetHeader i j r f = length r ≡ 72

asks : (k : Kind) (i j : ℕ) (r f : List ℕ) → HasLayout f → length r ≡ record_length k → place_ok k i j (codeplug_of f) ≡ true → Asks k i j r f
asks InsertContact i j r f l w p =
    omega (arith, up_to i (length (codeplug_of f).contacts) _ p, contacts-count f, contact_count-lt f l.bytes)
asks RemoveContact i j r f l w p = tt
asks ReplaceContact i j r f l w p =
    omega (arith, below i (length (codeplug_of f).contacts) _ p, contacts-count f, contact_count-lt f l.bytes)
asks InsertChannel i j r f l w p =
    omega (arith, up_to i (length (codeplug_of f).channels) _ p, channels-count f, channel_count-lt f l.bytes)
asks RemoveChannel i j r f l w p = tt
asks ReplaceChannel i j r f l w p =
    omega (arith, below i (length (codeplug_of f).channels) _ p, channels-count f, channel_count-lt f l.bytes)
asks InsertBank i j r f l w p = (l, (omega (arith, up_to i (length (codeplug_of f).banks) _ p, banks-count f), w))
asks RemoveBank i j r f l w p = tt
asks RenameBank i j r f l w p = (l, (omega (arith, below i (length (codeplug_of f).banks) _ p, banks-count f), w))
asks InsertEntry i j r f l w p =
    let n = length (codeplug_of f).banks in
    let m = entries_in i (codeplug_of f).banks in
    let g : i < bank_count f = omega (arith, below i n _ p, banks-count f) in
    let h : j ≤ m = leb-true j m (and_right (ltb i n) _ p) in
    (l, (omega arith, (omega (arith, entries_at f i g, entry_count-lt f (bank_place f i) l.bytes), w)))
asks RemoveEntry i j r f l w p = tt
asks SetHeader i j r f l w p = w

pub asks-as : (k m : Kind) (i j : ℕ) (r f : List ℕ) → k ≡ m
    → (HasLayout f) × ((length r ≡ record_length k) × (place_ok k i j (codeplug_of f) ≡ true)) → Asks m i j r f
asks-as k m i j r f e h = rw e at (asks k i j r f h.0 h.1.0 h.1.1)

-- ---- a record that is one number

pub whole-number : (r : List ℕ) → length r ≡ 2 → num r 0 2 ≡ little r
whole-number r h = ap little (take_all 2 r (omega arith))

-- ---- a channel at p: s are its bytes, m its mode, x its contact index

module _ (f : List ℕ) (i mode p : ℕ) (s : List ℕ) (m : ℕ) (x : Option ℕ) (t : Bool) (ds : s ≡ part f p 90) (dm : m ≡ get_or s 0 0)
    (dx : x ≡ named_contact s) (dt : t ≡ is_index i x) where
  pub keeps-named : (v : Validity) (q : ℕ) → t ≡ true → q ≡ contact_index_place m → v ≡ unless (eqb m mode) reason.ContactIndex (p + q) → v ≡ keeps_mode f i mode p
  unfolding keeps_mode index_place
  keeps-named v q h dq d =
      let e : is_index i (named_contact (part f p 90)) ≡ true = rw (← ds, ← dx, ← dt) h in
      rw (e, d, dq, dm, ds)

  pub keeps-other : t ≡ false → Valid ≡ keeps_mode f i mode p
  unfolding keeps_mode unless
  keeps-other h =
      let e : is_index i (named_contact (part f p 90)) ≡ false = rw (← ds, ← dx, ← dt) h in
      rw e
