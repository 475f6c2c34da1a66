-- Of an accepted file, reading a record of a file that was validated before answers what the full reader answers.
use Prim.Native.Nat.{ℕ, ◌<◌}
use mathlib.Core.Path.{◌≡◌, refl, sym, ◌∙◌}
use mathlib.Core.Bool.{Bool, true, false}
use mathlib.Core.List.{List}
use lib.Dec.{ltb}
use borrow.Author.Tests.{ltb-true}
use Rattle.fields.specs.Bytes.{part}
use Rattle.fields.specs.Rule.{◌then◌, unless, Validity, Valid}
use Rattle.fields.proofs.Laws.{valid-then, both-valid}
use Rattle.m17.specs.declared.Edition.{Edition}
use Rattle.layout.specs.Places.{contact_count, channel_count, bank_count, contact_place, channel_place, offset_place}
use Rattle.layout.specs.Banks.{offset_at, bank_head, bank_place}
use Rattle.layout.proofs.Laws.{offset-valid, bank-valid}
use Rattle.file_rule.specs.File.{contact_at, channel_at, file_rule}
use Rattle.codeplug.specs.Read.{place_rule, contact_read, channel_read, bank_read, entries_read}
use Rattle.codeplug.specs.Prevalidated.{contact_prevalidated, channel_prevalidated, table_place, bank_prevalidated_rule, bank_prevalidated, entries_prevalidated}
use Rattle.file_rule.proofs.Laws.{file-valid, contact-there, channel-there}
use Rattle.codeplug.proofs.Laws.{table-leads, placed-leads, bank-same, entries-same}
use Rattle.format.specs.declared.refusals.Reason.TheVariants as reason

-- the place, then the record's own validity, which is valid: as after validating the whole file
prevalidated-validity : (ed : Edition) (f : List ℕ) (n count : ℕ) (v : Validity) → file_rule ed f ≡ Valid → (n < count → v ≡ Valid)
    → unless (ltb n count) reason.NoPlace 0 then v ≡ place_rule ed f n count
unfolding place_rule unless ◌then◌
prevalidated-validity ed f n count v h g = by (ltb n count) refl ∙ sym (valid-then (file_rule ed f) (unless (ltb n count) reason.NoPlace 0) h)
  where
    by : (t : Bool) → ltb n count ≡ t → unless (ltb n count) reason.NoPlace 0 then v ≡ unless (ltb n count) reason.NoPlace 0
    by true e = rw e (g (ltb-true n count e))
    by false e = rw e

pub contact-prevalidated : (ed : Edition) (f : List ℕ) (n : ℕ) → file_rule ed f ≡ Valid → contact_prevalidated ed f n ≡ contact_read ed f n
unfolding contact_prevalidated contact_read
contact-prevalidated ed f n h =
    rw (prevalidated-validity ed f n (contact_count f) (contact_at ed f (contact_place n)) h (contact-there ed f n (file-valid ed f h).contacts))

pub channel-prevalidated : (ed : Edition) (f : List ℕ) (n : ℕ) → file_rule ed f ≡ Valid → channel_prevalidated f n ≡ channel_read ed f n
unfolding channel_prevalidated channel_read
channel-prevalidated ed f n h =
    rw (prevalidated-validity ed f n (channel_count f) (channel_at f (channel_place f n)) h (channel-there f n (file-valid ed f h).channels))

bank-validity : (ed : Edition) (f : List ℕ) (n : ℕ) → file_rule ed f ≡ Valid → bank_prevalidated_rule f n ≡ place_rule ed f n (bank_count f)
unfolding bank_prevalidated_rule
bank-validity ed f n h =
    let g = file-valid ed f h in
    prevalidated-validity ed f n (bank_count f) (offset_at f (offset_place f n) then bank_head f (table_place f n)) h
    (λ b. both-valid _ _ (offset-valid f n g.offsets b) (rw (table-leads f n g.banks b) (bank-valid f n g.banks b).0))

pub bank-prevalidated : (ed : Edition) (f : List ℕ) (n : ℕ) → file_rule ed f ≡ Valid → bank_prevalidated f n ≡ bank_read ed f n
unfolding bank_prevalidated bank_read
bank-prevalidated ed f n h =
    rw (bank-validity ed f n h)
    (bank-same (place_rule ed f n (bank_count f)) (part f (table_place f n) 34) (part f (bank_place f n) 34) (λ g. rw (placed-leads ed f n (bank_count f) g refl)))

pub entries-prevalidated : (ed : Edition) (f : List ℕ) (n : ℕ) → file_rule ed f ≡ Valid → entries_prevalidated f n ≡ entries_read ed f n
unfolding entries_prevalidated entries_read
entries-prevalidated ed f n h =
    rw (bank-validity ed f n h)
    (entries-same (place_rule ed f n (bank_count f)) f (table_place f n) (bank_place f n) (λ g. placed-leads ed f n (bank_count f) g refl))
