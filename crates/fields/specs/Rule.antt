-- Reading (document 01, "The refusals, by number"): fields in order, the first bad one answering, 2 before any other for a field.
use Rattle.std.specs.Prelude.{ℕ, zero, suc, ◌+◌, Bool, true, false, cond, List, length, leb, Result, Ok, Err}
use Rattle.fields.specs.Bytes.{over}
use Rattle.format.specs.declared.refusals.Reason.{Reason}
use Rattle.format.specs.declared.refusals.Reason.TheVariants as reason
use Rattle.format.specs.declared.refusals.Refusal.{Refusal}

-- whether something is valid: it is, or it is refused for a reason at a place
abbrev pub Validity : Type 0
Validity = Result (Unit {0}) Refusal

abbrev pub Valid : Validity
Valid = Ok tt

-- of whatever it is that may be refused
abbrev pub Refused : {T : Type 0} → Reason → ℕ → Result T Refusal
Refused why at = Err (record { reason = why; place = at })

infixr 20 ◌then◌
-- the first refusal of two
unfoldable pub ◌then◌ : Validity → Validity → Validity
(Ok u) then v = v
(Err e) then v = Err e

-- whether nothing is refused
unfoldable pub is_valid : Validity → Bool
is_valid (Ok u) = true
is_valid (Err e) = false

-- a refusal for this reason at this place, unless the test holds
unfoldable pub unless : Bool → Reason → ℕ → Validity
unless true why place = Valid
unless false why place = Refused why place

-- the field of n bytes at k of a record that starts at base and of which `left` bytes are inside the file: cut where the field is not
-- wholly inside, then its reason where its value is outside its rule
unfoldable pub field_of : ℕ → ℕ → ℕ → ℕ → Reason → Bool → Validity
field_of left base k n why ok = cond (leb (k + n) left) (unless ok why (base + k)) (Refused reason.Cut (base + k))

-- the same of a record's bytes s, fewer than the record has where the file ends
abbrev pub field : List ℕ → ℕ → ℕ → ℕ → Reason → Bool → Validity
field s base k n why ok = field_of (length s) base k n why ok

-- a field of any value: it can only be cut
abbrev pub inside : List ℕ → ℕ → ℕ → ℕ → Validity
inside s base k n = field s base k n reason.Value true

-- n records of w bytes from place p on
unfoldable pub each : (ℕ → Validity) → ℕ → ℕ → ℕ → Validity
each rule zero w p = Valid
each rule (suc n) w p = rule p then each rule n w (p + w)

-- what a writer leaves of the buffer out: the record's bytes over its beginning, or all as lent
unfoldable pub written : Validity → List ℕ → List ℕ → List ℕ
written (Ok u) out s = over out 0 s
written (Err e) out s = out
