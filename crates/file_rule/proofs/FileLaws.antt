-- Laws of validation of the file: the contact that a channel names; too long, or its parts one after the other.
use Prim.Native.Nat.{ℕ, ◌+◌, ◌≤◌, ◌<◌}
use mathlib.Core.Path.{◌≡◌, sym, ◌∙◌}
use mathlib.Core.List.{List}
use native.Mathlib.Omega.{arith}
use lib.ListN.{length, get_or}
use lib.Dec.{ltb, eqb}
use borrow.Author.Tests.{lt-ltb, le-ltb, le-leb, lt-leb}
use Rattle.std.specs.Prelude.{Some}
use Rattle.fields.specs.Rule.{Validity, Refused, ◌then◌, unless}
use Rattle.fields.proofs.Laws.{valid-then, unless-passes}
use Rattle.format.specs.declared.refusals.Reason.TheVariants as reason
use Rattle.layout.specs.Places.{contact_count, contact_place}
use Rattle.layout.specs.Header.{header_rule}
use Rattle.layout.specs.Banks.{offsets_rule, banks_rule}
use Rattle.file_rule.specs.File.{names_contact, file_rule_by}

-- ---- the contact that a channel names; n is the contact count

pub names-mode : (f : List ℕ) (mode i n : ℕ) → n ≡ contact_count f → i < n
    → eqb (get_or f (contact_place i + 32) 0) mode ≡ names_contact f mode (Some i)
unfolding names_contact
names-mode f mode i n e h =
    let t : ltb i (contact_count f) ≡ _ = lt-ltb i (contact_count f) (omega arith) in
    rw t

pub names-none : (f : List ℕ) (mode i n : ℕ) → n ≡ contact_count f → n ≤ i → ltb i n ≡ names_contact f mode (Some i)
unfolding names_contact
names-none f mode i n e h = rw (← e, le-ltb i n h)

-- ---- the file

-- by what refuses its contacts and its channels
module _ (contacts channels : Validity) (f : List ℕ) where
  pub file_long : 1_048_576 < length f → file_rule_by contacts channels f ≡ Refused reason.TooLong 0
  unfolding unless ◌then◌
  file_long h = rw (lt-leb (length f) 1_048_576 h)

  pub file_fits : length f ≤ 1_048_576
      → file_rule_by contacts channels f ≡ header_rule f then contacts then channels then offsets_rule f then banks_rule f
  file_fits h =
      valid-then _ (header_rule f then contacts then channels then offsets_rule f then banks_rule f)
      (unless-passes _ reason.TooLong 0 (le-leb (length f) 1_048_576 h))
