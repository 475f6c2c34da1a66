-- What the legacy reading refuses of a file that the new one accepts: a traits or settings byte, by 7.
use Prim.Native.Nat.{ℕ, zero, suc, ◌+◌, ◌*◌, ◌≤◌, ◌<◌}
use mathlib.Core.Path.{◌≡◌, refl}
use mathlib.Core.Bool.{Bool, true, false, cond}
use mathlib.Core.List.{List}
use native.Mathlib.Omega.{arith}
use lib.ListN.{length, get_or}
use lib.Dec.{eqb}
use Rattle.fields.specs.Rule.{◌then◌, unless, field_of, each}
use Rattle.fields.proofs.Laws.{then-valid, field-valid, field-inside, each-valid}
use Rattle.m17.specs.declared.Edition.{Edition}
use Rattle.contact.specs.Contact.{dmr_rule, m17_rule, contact_rule}
use Rattle.channel.specs.Rule.{head_rule, channel_rule}
use Rattle.layout.specs.Places.{contact_count, channel_count, contact_place, channel_place}
use Rattle.file_rule.specs.File.{contact_at, contacts_rule, channel_at, channels_rule, file_rule}
use Rattle.legacy.specs.Reading.{legacy_number_flag_ok, legacy_contact_rule, legacy_contact_at, legacy_contacts_rule, legacy_channel_rule, legacy_channel_at, legacy_channels_rule, legacy_file_rule}
use Rattle.std.specs.Prelude.{Ok, Err}
use Rattle.format.specs.declared.refusals.Reason.TheVariants as reason
use Rattle.fields.specs.Rule.{Validity, Valid, Refused}
use Rattle.format.specs.declared.refusals.Reason.{Reason}

-- v is no refusal but one by 7
abbrev OnlySeven : Validity → Type 0
OnlySeven (Ok u) = Unit
OnlySeven (Err e) = e.reason ≡ reason.Value

seven-valid : (v : Validity) → v ≡ Valid → OnlySeven v
seven-valid v e = rw e tt

seven-then : (a b : Validity) → OnlySeven a → OnlySeven b → OnlySeven (a then b)
unfolding ◌then◌
seven-then (Ok u) b h k = k
seven-then (Err e) b h k = h

seven-unless : (ok : Bool) (p : ℕ) → OnlySeven (unless ok reason.Value p)
unfolding unless
seven-unless true p = tt
seven-unless false p = refl

-- a field of 7 that is inside
seven-field : (left base k n : ℕ) (ok : Bool) → k + n ≤ left → OnlySeven (field_of left base k n reason.Value ok)
seven-field left base k n ok h = rw (field-inside left base k n reason.Value ok h) (seven-unless ok (base + k))

seven-each : (f : ℕ → Validity) (n w p : ℕ) → ((i : ℕ) → i < n → OnlySeven (f (p + i * w))) → OnlySeven (each f n w p)
unfolding each
seven-each f zero w p h = tt
seven-each f (suc n) w p h =
    let z : p + 0 * w ≡ p = omega arith in
    seven-then (f p) (each f n w (p + w)) (rw z at (h 0 (omega arith)))
    (seven-each f n w (p + w) (λ i l. let e : p + suc i * w ≡ p + w + i * w = omega arith in rw e at (h (suc i) (omega arith))))

-- ---- a record that the new reading accepts

contact-seven : (ed : Edition) (s : List ℕ) (base : ℕ) → contact_rule ed s base ≡ Valid → OnlySeven (legacy_contact_rule ed s base)
unfolding contact_rule dmr_rule legacy_contact_rule
contact-seven ed s base h =
    let name = then-valid _ _ h in
    let mode = then-valid _ _ name.1 in
    seven-then _ _ (seven-valid _ name.0) (seven-then _ _ (seven-valid _ mode.0) (by (eqb (get_or s 32 0) 1) mode.1))
  where
    by : (t : Bool) → cond t (dmr_rule s base) (m17_rule ed s base) ≡ Valid
        → OnlySeven (cond t (field_of (length s) base 33 4 reason.Value true then field_of (length s) base 37 1 reason.Value (legacy_number_flag_ok (get_or s 37 0)) then field_of (length s) base 38 1 reason.Value (eqb (get_or s 38 0) 0)) (m17_rule ed s base))
    by true g =
        let id = then-valid _ _ g in
        let set = then-valid _ _ id.1 in
        let inside = (field-valid _ _ _ _ _ _ set.0).0 in
        seven-then _ _ (seven-valid _ id.0) (seven-then _ _ (seven-field _ base 37 1 _ inside) (seven-valid _ set.1))
    by false g = seven-valid _ g

channel-seven : (s : List ℕ) (base : ℕ) (named : Bool) → channel_rule s base named ≡ Valid → OnlySeven (legacy_channel_rule s base named)
unfolding channel_rule head_rule legacy_channel_rule
channel-seven s base named h =
    let all = then-valid _ _ h in
    let mode = then-valid _ _ all.0 in
    let traits = then-valid _ _ mode.1 in
    let inside = (field-valid _ _ _ _ _ _ traits.0).0 in
    seven-then _ _
    (seven-then _ _ (seven-valid _ mode.0) (seven-then _ _ (seven-field _ base 1 1 _ inside) (seven-valid _ traits.1)))
    (seven-valid _ all.1)

-- ---- and a file

file-seven : (ed : Edition) (f : List ℕ) → file_rule ed f ≡ Valid → OnlySeven (legacy_file_rule ed f)
unfolding file_rule contacts_rule channels_rule legacy_file_rule legacy_contacts_rule legacy_channels_rule
file-seven ed f h =
    let size = then-valid _ _ h in
    let header = then-valid _ _ size.1 in
    let contacts = then-valid _ _ header.1 in
    let channels = then-valid _ _ contacts.1 in
    seven-then _ _ (seven-valid _ size.0)
    (seven-then _ _ (seven-valid _ header.0)
    (seven-then _ _
    (seven-each (legacy_contact_at ed f) (contact_count f) 39 (contact_place 0)
    (λ i l. contact-seven ed _ _ (each-valid (contact_at ed f) (contact_count f) 39 (contact_place 0) contacts.0 i l)))
    (seven-then _ _
    (seven-each (legacy_channel_at f) (channel_count f) 90 (channel_place f 0)
    (λ i l. channel-seven _ _ _ (each-valid (channel_at f) (channel_count f) 90 (channel_place f 0) channels.0 i l)))
    (seven-valid _ channels.1))))

pub refused-by-seven : (ed : Edition) (f : List ℕ) (n : Reason) (p : ℕ) → file_rule ed f ≡ Valid → legacy_file_rule ed f ≡ Refused n p → n ≡ reason.Value
refused-by-seven ed f n p h e = rw e at (file-seven ed f h)
