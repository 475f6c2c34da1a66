-- The file's rule by the two editions of addresses: they give the same, or the older gives 8; and a file without a hash address that the newer accepts, the older accepts.
use Prim.Native.Nat.{ℕ, zero, suc, ◌+◌, ◌<◌}
use mathlib.Core.Path.{◌≡◌, refl, ap, ◌∙◌}
use mathlib.Core.Bool.{Bool, true, false, cond}
use mathlib.Core.Logic.{◌⊎◌, inl, inr}
use mathlib.Core.List.{List}
use lib.ListN.{length, get_or}
use native.Mathlib.Omega.{arith}
use lib.Dec.{leb, eqb}
use Rattle.fields.specs.Bytes.{part, big}
use Rattle.fields.specs.Rule.{◌then◌, unless, field_of, each}
use Rattle.fields.proofs.Laws.{each-passes}
use Rattle.m17.specs.declared.Edition.TheVariants.{Older, Newer}
use Rattle.m17.specs.Address.{address_ok}
use Rattle.m17.proofs.Editions.{address-newer}
use Rattle.contact.specs.Contact.{dmr_rule, m17_rule, contact_rule}
use Rattle.contact.proofs.Laws.{ValidInfo, contact-valid, dmr-passes, m17-passes}
use Rattle.layout.specs.Places.{contact_count, contact_place}
use Rattle.file_rule.specs.File.{contact_at, contacts_rule, file_rule}
use Rattle.file_rule.proofs.Laws.{file-valid, file-passes, contact-walks, contact-there}
use Rattle.std.specs.Prelude.{Ok, Err}
use Rattle.format.specs.declared.refusals.Reason.TheVariants as reason
use Rattle.fields.specs.Rule.{Validity, Valid, Refused}

-- the older's validity and the newer's
abbrev pub SameOrEight : Validity → Validity → Type 0
SameOrEight a b = (a ≡ b) ⊎ ((p : ℕ) × (a ≡ Refused reason.Address p))

then-either : (a b c d : Validity) → SameOrEight a b → SameOrEight c d → SameOrEight (a then c) (b then d)
unfolding ◌then◌
then-either (Ok u) b c d (inl e) (inl g) = inl (rw (← e) g)
then-either (Ok u) b c d (inl e) (inr g) = inr g
then-either (Err e') b c d (inl e) h = inl (rw (← e) refl)
then-either a b c d (inr (p, e)) h = inr (p, rw e refl)

each-either : (g h : ℕ → Validity) → ((p : ℕ) → SameOrEight (g p) (h p)) → (n w p : ℕ) → SameOrEight (each g n w p) (each h n w p)
unfolding each
each-either g h k zero w p = inl refl
each-either g h k (suc n) w p = then-either (g p) (h p) (each g n w (p + w)) (each h n w (p + w)) (k p) (each-either g h k n w (p + w))

-- a field of number 8: whatever the older's test takes the newer's takes
field-either : (left base k n : ℕ) (a b : Bool) → (a ≡ true → b ≡ true) → SameOrEight (field_of left base k n reason.Address a) (field_of left base k n reason.Address b)
unfolding field_of
field-either left base k n a b h = by (leb (k + n) left) a b h
  where
    by : (i a b : Bool) → (a ≡ true → b ≡ true)
        → SameOrEight (cond i (unless a reason.Address (base + k)) (Refused reason.Cut (base + k))) (cond i (unless b reason.Address (base + k)) (Refused reason.Cut (base + k)))
    by true true b h = inl (rw (h refl))
    by true false b h = inr (base + k, unfold unless in refl)
    by false a b h = inl refl

m17-either : (s : List ℕ) (base : ℕ) → SameOrEight (m17_rule Older s base) (m17_rule Newer s base)
unfolding m17_rule
m17-either s base =
    field-either (length s) base 33 6 (address_ok Older (big (part s 33 6))) (address_ok Newer (big (part s 33 6))) (address-newer Newer (big (part s 33 6)))

pub contact-either : (s : List ℕ) (base : ℕ) → SameOrEight (contact_rule Older s base) (contact_rule Newer s base)
unfolding contact_rule
contact-either s base =
    then-either _ _ _ _ (inl refl) (then-either _ _ _ _ (inl refl) (by (eqb (get_or s 32 0) 1)))
  where
    by : (t : Bool) → SameOrEight (cond t (dmr_rule s base) (m17_rule Older s base)) (cond t (dmr_rule s base) (m17_rule Newer s base))
    by true = inl refl
    by false = m17-either s base

contacts-either : (f : List ℕ) → SameOrEight (contacts_rule Older f) (contacts_rule Newer f)
unfolding contacts_rule
contacts-either f = each-either (contact_at Older f) (contact_at Newer f) (λ p. contact-either (part f p 39) p) (contact_count f) 39 (contact_place 0)

pub file-either : (f : List ℕ) → SameOrEight (file_rule Older f) (file_rule Newer f)
unfolding file_rule
file-either f =
    then-either _ _ _ _ (inl refl) (then-either _ _ _ _ (inl refl) (then-either _ _ _ _ (contacts-either f) (inl refl)))

-- ---- a file without a hash address

contact-older : (s : List ℕ) (p : ℕ) → (get_or s 32 0 ≡ 2 → address_ok Older (big (part s 33 6)) ≡ true) → contact_rule Newer s p ≡ Valid
    → contact_rule Older s p ≡ Valid
contact-older s p plain h = by (contact-valid Newer s p h).1
  where
    by : ValidInfo Newer s → contact_rule Older s p ≡ Valid
    by (inl d) = dmr-passes s p (contact-valid Newer s p h).0 Older d
    by (inr m) = m17-passes s p (contact-valid Newer s p h).0 Older (record { whole = m.whole; mode = m.mode; address = plain m.mode })

pub file-older : (f : List ℕ)
    → ((n : ℕ) → n < contact_count f → get_or (part f (contact_place n) 39) 32 0 ≡ 2 → address_ok Older (big (part (part f (contact_place n) 39) 33 6)) ≡ true)
    → file_rule Newer f ≡ Valid → file_rule Older f ≡ Valid
file-older f plain h =
    let v = file-valid Newer f h in
    file-passes Older f (record {
      short = v.short;
      header = v.header;
      contacts = contacts v.contacts;
      channels = v.channels;
      offsets = v.offsets;
      banks = v.banks;
    })
  where
    contacts : contacts_rule Newer f ≡ Valid → contacts_rule Older f ≡ Valid
    contacts c =
        unfold contacts_rule in
        each-passes (contact_at Older f) (contact_count f) 39 (contact_place 0)
        (λ n l. ap (λ (p : ℕ). contact_at Older f p) (contact-walks n) ∙ contact-older (part f (contact_place n) 39) (contact_place n) (plain n l) (contact-there Newer f n c l))

-- a file that the older accepts holds none
pub older-plain : (f : List ℕ) → file_rule Older f ≡ Valid → (n : ℕ) → n < contact_count f → get_or (part f (contact_place n) 39) 32 0 ≡ 2
    → address_ok Older (big (part (part f (contact_place n) 39) 33 6)) ≡ true
older-plain f h n l m = by (contact-valid Older (part f (contact_place n) 39) (contact_place n) (contact-there Older f n (file-valid Older f h).contacts l)).1
  where
    by : ValidInfo Older (part f (contact_place n) 39) → address_ok Older (big (part (part f (contact_place n) 39) 33 6)) ≡ true
    by (inl d) = absurd (omega (arith, d.mode))
    by (inr v) = v.address
