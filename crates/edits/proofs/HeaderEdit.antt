-- Edit 12: of the result only the two texts of the new header can refuse.
use Prim.Native.Nat.{ℕ, ◌+◌, ◌≤◌}
use mathlib.Core.Path.{◌≡◌, refl, sym, ◌∙◌}
use mathlib.Core.Bool.{true}
use mathlib.Core.List.{List, ◌++◌}
use native.Mathlib.Omega.{arith}
use native.Mathlib.Nat.{zero-add}
use lib.ListN.{length, take, length-append}
use lib.Seq.{length-take-le}
use lib.Dec.{leb, eqb}
use borrow.Author.Tests.{le-leb}
use Rattle.fields.specs.Bytes.{part, num}
use Rattle.text.specs.Text.{text_ok}
use Rattle.fields.specs.Rule.{◌then◌, unless, Valid}
use Rattle.fields.proofs.Laws.{part_left, part_right, part-part, then-valid, then-of-valid, unless-passes, field-valid, field-inside, field-passes, AllBytes, bytes-append, bytes_take}
use Rattle.m17.specs.declared.Edition.{Edition}
use Rattle.layout.specs.Header.{identity_rule}
use Rattle.file_rule.specs.File.{file_rule}
use Rattle.model.specs.Codeplug.{Codeplug, codeplug_bytes}
use Rattle.model.specs.Edits.{with_preamble}
use Rattle.model.proofs.Shape.{Shaped, length-codeplug}
use Rattle.edits.proofs.AcceptedCodeplug.{AcceptedCodeplug, file-validated, contacts-pass, channels-pass}
use Rattle.model.proofs.Validated.{banks_ok-passes}
use Rattle.format.specs.declared.refusals.Reason.TheVariants as reason

-- the first ten bytes are kept
abbrev new_preamble : List ℕ → List ℕ → List ℕ
new_preamble t r = take 10 t ++ r

module _ (t r : List ℕ) (h : length t ≡ 82) (g : length r ≡ 72) where
  kept-length : length (take 10 t) ≡ 10
  kept-length = length-take-le 10 t (omega arith)

  pub preamble-length : length (new_preamble t r) ≡ 82
  preamble-length = omega (arith, length-append (take 10 t) r, kept-length)

  kept : (k n : ℕ) → k + n ≤ 10 → part (new_preamble t r) k n ≡ part t k n
  kept k n b =
      part_left (take 10 t) r k n (omega (arith, kept-length))
      ∙ part-part t 0 10 k n b
      ∙ rw zero-add

  new : (k n j : ℕ) → j ≡ 10 + k → part (new_preamble t r) j n ≡ part r k n
  new k n j e =
      let d : j ≡ length (take 10 t) + k = omega (arith, kept-length) in
      rw d (part_right (take 10 t) r k n)

  pub preamble-validated : identity_rule t ≡ Valid
      → identity_rule (new_preamble t r) ≡ unless (text_ok (part r 0 32)) reason.Text 10 then unless (text_ok (part r 32 32)) reason.Text 42
  unfolding identity_rule ◌then◌
  preamble-validated e =
      let a = then-valid _ _ e in
      let b = then-valid _ _ a.1 in
      let magic : eqb (num t 0 8) 0x43585452 ≡ true = (field-valid _ _ _ _ _ _ a.0).1 in
      let version : eqb (num t 8 2) 1 ≡ true = (field-valid _ _ _ _ _ _ b.0).1 in
      let l = preamble-length in
      rw (
        kept 0 8 (omega arith),
        kept 8 2 (omega arith),
        new 0 32 10 refl,
        new 32 32 42 refl,
        field-passes (length (new_preamble t r)) 0 0 8 reason.Magic (eqb (num t 0 8) 0x43585452) (omega arith) magic,
        field-passes (length (new_preamble t r)) 0 8 2 reason.Version (eqb (num t 8 2) 1) (omega arith) version,
        field-inside (length (new_preamble t r)) 0 10 32 reason.Text (text_ok (part r 0 32)) (omega arith),
        field-inside (length (new_preamble t r)) 0 42 32 reason.Text (text_ok (part r 32 32)) (omega arith),
      )

module _ (ed : Edition) (c : Codeplug) (a : AcceptedCodeplug ed c) (r : List ℕ) (g : length r ≡ 72) (b : AllBytes r) where
  pub shaped-preamble : Shaped (with_preamble (new_preamble c.preamble r) c)
  unfolding with_preamble
  shaped-preamble =
      let h = a.shaped in
      record {
        preamble = preamble-length c.preamble r h.preamble g;
        preamble_bytes = bytes-append (take 10 c.preamble) r (bytes_take 10 c.preamble h.preamble_bytes) b;
        contacts_fit = h.contacts_fit;
        contacts = h.contacts;
        contacts_bytes = h.contacts_bytes;
        channels_fit = h.channels_fit;
        channels = h.channels;
        channels_bytes = h.channels_bytes;
        banks_fit = h.banks_fit;
        banks = h.banks;
        offsets_fit = h.offsets_fit;
      }

  same_length : length (codeplug_bytes (with_preamble (new_preamble c.preamble r) c)) ≡ length (codeplug_bytes c)
  unfolding with_preamble
  same_length = length-codeplug (with_preamble (new_preamble c.preamble r) c) shaped-preamble ∙ sym (length-codeplug c a.shaped)

  pub set-header-validated : file_rule ed (codeplug_bytes (with_preamble (new_preamble c.preamble r) c))
      ≡ unless (text_ok (part r 0 32)) reason.Text 10 then unless (text_ok (part r 32 32)) reason.Text 42
  unfolding with_preamble ◌then◌
  set-header-validated =
      file-validated (with_preamble (new_preamble c.preamble r) c) shaped-preamble ed
      ∙ rw (
        same_length,
        unless-passes (leb (length (codeplug_bytes c)) 1_048_576) reason.TooLong 0 (le-leb (length (codeplug_bytes c)) 1_048_576 a.short),
        contacts-pass ed 88 c.contacts a.contacts,
        channels-pass c.contacts _ c.channels a.channels,
        banks_ok-passes (length c.channels) _ c.banks a.banks,
        then-of-valid (identity_rule (new_preamble c.preamble r)),
      )
      (preamble-validated c.preamble r a.shaped.preamble g a.preamble)
