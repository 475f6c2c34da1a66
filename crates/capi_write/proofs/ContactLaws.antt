-- Writing a contact from its numbers: a mode that is there is validated as the library does, a foreign one answers behind the name.
use mathlib.Core.Path.{◌≡◌, refl}
use Prim.Native.Nat.{ℕ}
use mathlib.Core.Bool.{Bool, true, false}
use mathlib.Core.Logic.{◌⊎◌, inl, inr}
use mathlib.Core.List.{List}
use lib.ListN.{length}
use lib.Dec.{leb}
use borrow.Author.Tests.{ne_eqb}
use Rattle.text.specs.Text.{given_ok}
use Rattle.format.specs.declared.refusals.Reason.{Reason}
use Rattle.format.specs.declared.refusals.Reason.TheVariants as reason
use Rattle.fields.specs.Rule.{Validity, Valid, Refused, ◌then◌, unless, written}
use Rattle.m17.specs.declared.Edition.{Edition}
use Rattle.contact.specs.Contact.{mode_ok, contact_write_rule, contact_written}
use Rattle.capi_write.specs.Contacts.{info_from, contact_from_c_rule, contact_from_c_written}
use Rattle.capi_numbers.specs.declared.ContactValues.{ContactValues}

pub mode_known : (m : ℕ) → (m ≡ 1) ⊎ ((m ≡ 1 → ⊥) × (m ≡ 2)) → mode_ok m ≡ true
unfolding mode_ok
mode_known m (inl e) = rw e
mode_known m (inr e) = rw e.1

mode_foreign : (m : ℕ) → (m ≡ 1 → ⊥) → (m ≡ 2 → ⊥) → mode_ok m ≡ false
unfolding mode_ok
mode_foreign m one two = rw (ne_eqb m 1 one, ne_eqb m 2 two)

-- two tests that were passed before
again : (a b : Bool) (m n : Reason) (p q : ℕ) (v : Validity)
    → (unless a m p then unless b n q then unless a m p then unless b n q then v) ≡ (unless a m p then unless b n q then v)
unfolding unless ◌then◌
again true true m n p q v = refl
again true false m n p q v = refl
again false b m n p q v = refl

known-mode : (e : Edition) (size : ℕ) (name : List ℕ) (v : ContactValues) → mode_ok v.mode ≡ true
    → contact_from_c_rule e size name v ≡ contact_write_rule e size name (info_from v)
unfolding contact_from_c_rule contact_write_rule unless ◌then◌
known-mode e size name v ok = rw ok (again (leb 39 size) (given_ok name) reason.ShortBuffer reason.Text 0 0 _)

-- what the library's writer answers and leaves is what is asked for
pub known_written : (e : Edition) (out name : List ℕ) (v : ContactValues) → mode_ok v.mode ≡ true
    → (contact_write_rule e (length out) name (info_from v) ≡ contact_from_c_rule e (length out) name v)
    × (contact_written e out name (info_from v) ≡ contact_from_c_written e out name v)
unfolding contact_written contact_from_c_written
known_written e out name v ok = let k = known-mode e (length out) name v ok in (rw k, rw k)

-- a foreign mode is refused, and the buffer stays as lent
pub foreign_refused : (e : Edition) (out name : List ℕ) (v : ContactValues) → (v.mode ≡ 1 → ⊥) → (v.mode ≡ 2 → ⊥)
    → unless (leb 39 (length out)) reason.ShortBuffer 0 ≡ Valid → unless (given_ok name) reason.Text 0 ≡ Valid
    → (contact_from_c_rule e (length out) name v ≡ Refused reason.Mode 32) × (contact_from_c_written e out name v ≡ out)
unfolding contact_from_c_rule contact_from_c_written unless ◌then◌ written
foreign_refused e out name v one two room text = (rw (mode_foreign v.mode one two, room, text), rw (mode_foreign v.mode one two, room, text))
