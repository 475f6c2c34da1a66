-- Laws of a contact in the new order: what refuses it and what it holds is what it was by the legacy reading, cut or not; no two become the same, and one that is valid
-- by both readings stays.
use Prim.Native.Nat.{ℕ}
use mathlib.Core.Path.{◌≡◌, refl, ap, sym, ◌∙◌}
use mathlib.Core.Logic.{inl, inr}
use mathlib.Core.Bool.{Bool, true, false, cond}
use mathlib.Core.List.{List}
use native.Mathlib.Omega.{arith}
use lib.ListN.{length, get_or}
use lib.Dec.{eqb}
use borrow.Author.Tests.{eqb-true}
use Rattle.fields.specs.Bytes.{AllBytes}
use Rattle.bits.specs.Packed.{number_flag_ok}
use Rattle.m17.specs.declared.Edition.{Edition}
use Rattle.contact.specs.Contact.{dmr_rule, contact_rule, settings_of, info_of, contact_of}
use Rattle.contact.proofs.Laws.{ValidInfo, contact-valid}
use Rattle.legacy.specs.Reading.{legacy_number_flag_ok, legacy_contact_rule, legacy_settings_of, legacy_contact_of}
use Rattle.legacy.specs.Migration.{migrated_at, migrated_contact}
use Rattle.legacy.proofs.ByteLaws.{migrated-ok, migrated-of, both_zero}
use Rattle.legacy.proofs.RunLaws.{Keeps, KeepsBytes, OneToOne}
use Rattle.legacy.proofs.RecordLaws.{at_here, at_other, at_before, at_long, at_one, at-stays, at-bytes}
use Rattle.fields.specs.Rule.{Valid}

pub contact-keeps : Keeps migrated_contact
unfolding migrated_contact
contact-keeps s = by (eqb (get_or s 32 0) 1)
  where
    by : (t : Bool) → length (cond t (migrated_at 37 s) s) ≡ length s
    by true = at_long 37 s
    by false = refl

pub contact-bytes : KeepsBytes migrated_contact
unfolding migrated_contact
contact-bytes s b = by (eqb (get_or s 32 0) 1)
  where
    by : (t : Bool) → AllBytes (cond t (migrated_at 37 s) s)
    by true = at-bytes 37 s b
    by false = b

-- every byte but a DMR contact's settings stays
pub contact-other : (s : List ℕ) (j : ℕ) → (get_or s 32 0 ≡ 1 → j ≡ 37 → ⊥) → get_or (migrated_contact s) j 0 ≡ get_or s j 0
unfolding migrated_contact
contact-other s j h = by (eqb (get_or s 32 0) 1) refl
  where
    by : (t : Bool) → eqb (get_or s 32 0) 1 ≡ t → get_or (cond t (migrated_at 37 s) s) j 0 ≡ get_or s j 0
    by true e = at_other 37 s j (h (eqb-true _ 1 e))
    by false e = refl

-- its mode stays
pub contact-mode : (s : List ℕ) → get_or (migrated_contact s) 32 0 ≡ get_or s 32 0
contact-mode s = contact-other s 32 (λ _ h. omega arith)

pub contact-rule : (ed : Edition) (s : List ℕ) (p : ℕ) → AllBytes s → contact_rule ed (migrated_contact s) p ≡ legacy_contact_rule ed s p
unfolding contact_rule dmr_rule legacy_contact_rule migrated_contact
contact-rule ed s p b = by (eqb (get_or s 32 0) 1) refl
  where
    by : (t : Bool) → eqb (get_or s 32 0) 1 ≡ t
        → contact_rule ed (cond t (migrated_at 37 s) s) p ≡ legacy_contact_rule ed s p
    by true e =
        rw (
          at_long 37 s,
          at_before 37 s 0 32 (omega arith),
          at_other 37 s 32 (λ h. omega arith),
          at_other 37 s 38 (λ h. omega arith),
          at_here 37 s,
          migrated-ok (get_or s 37 0) (b 37),
          e,
        )
    by false e = rw e

pub contact-of : (s : List ℕ) → AllBytes s → contact_of (migrated_contact s) ≡ legacy_contact_of s
unfolding contact_of info_of settings_of legacy_contact_of legacy_settings_of migrated_contact
contact-of s b = by (eqb (get_or s 32 0) 1) refl
  where
    by : (t : Bool) → eqb (get_or s 32 0) 1 ≡ t → contact_of (cond t (migrated_at 37 s) s) ≡ legacy_contact_of s
    by true e =
        rw (
          at_before 37 s 0 32 (omega arith),
          at_before 37 s 33 4 (omega arith),
          at_other 37 s 32 (λ h. omega arith),
          at_here 37 s,
          migrated-of (get_or s 37 0) (b 37),
          e,
        )
    by false e = rw e

pub contact-one : OneToOne migrated_contact
unfolding migrated_contact
contact-one s t a b h =
    let m : get_or s 32 0 ≡ get_or t 32 0 = sym (contact-mode s) ∙ ap (λ (l : List ℕ). get_or l 32 0) h ∙ contact-mode t in
    by (eqb (get_or t 32 0) 1) (rw m at h)
  where
    by : (d : Bool) → cond d (migrated_at 37 s) s ≡ cond d (migrated_at 37 t) t → s ≡ t
    by true e = at_one 37 s t a b e
    by false e = e

-- one that is valid by both readings
pub contact-stays : (ed : Edition) (s : List ℕ) (p q : ℕ) → AllBytes s → contact_rule ed s p ≡ Valid → legacy_contact_rule ed s q ≡ Valid → migrated_contact s ≡ s
unfolding migrated_contact
contact-stays ed s p q b n l = by (eqb (get_or s 32 0) 1) refl
  where
    -- a DMR contact's settings, where it is valid
    settings : (u : List ℕ) (r : ℕ) → get_or u 32 0 ≡ 1 → contact_rule ed u r ≡ Valid → number_flag_ok (get_or u 37 0) ≡ true
    settings u r m h = of (contact-valid ed u r h).1
      where
        of : ValidInfo ed u → number_flag_ok (get_or u 37 0) ≡ true
        of (inl v) = v.settings
        of (inr v) = absurd (omega (arith, m, v.mode))

    by : (t : Bool) → eqb (get_or s 32 0) 1 ≡ t → cond t (migrated_at 37 s) s ≡ s
    by true e =
        let m : get_or s 32 0 ≡ 1 = eqb-true _ 1 e in
        let d : migrated_contact s ≡ migrated_at 37 s = rw e in
        let v : contact_rule ed (migrated_at 37 s) q ≡ Valid = rw (← d) (contact-rule ed s q b ∙ l) in
        let o = settings (migrated_at 37 s) q (at_other 37 s 32 (λ h. omega arith) ∙ m) v in
        let k : legacy_number_flag_ok (get_or s 37 0) ≡ true = sym (migrated-ok (get_or s 37 0) (b 37)) ∙ (rw (at_here 37 s) at o) in
        at-stays 37 s (both_zero (get_or s 37 0) (b 37) (settings s p m n) k)
    by false e = refl
