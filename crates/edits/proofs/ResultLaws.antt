-- The twelve edits together: reading the result of an edit of an accepted file gives `result_rule`, where the tests that come before
-- (33, 34, 35) let it through. The edited codeplug is the codeplug of that result.
use Prim.Native.Nat.{ℕ}
use mathlib.Core.Path.{◌≡◌, ap, ◌∙◌}
use mathlib.Core.Bool.{true, false}
use mathlib.Core.List.{List}
use lib.ListN.{length}
use lib.Dec.{leb, ltb}
use borrow.Author.Tests.{leb-true, ltb-true}
use Rattle.fields.proofs.Laws.{AllBytes}
use Rattle.bits.proofs.Laws.{and_right}
use Rattle.m17.specs.declared.Edition.{Edition}
use Rattle.file_rule.specs.File.{file_rule}
use Rattle.model.specs.Codeplug.{Codeplug, codeplug_bytes, codeplug_of}
use Rattle.model.specs.declared.Kind.{Kind}
use Rattle.model.specs.declared.Kind.TheVariants.{InsertContact, RemoveContact, ReplaceContact, InsertChannel, RemoveChannel, ReplaceChannel, InsertBank, RemoveBank, RenameBank, InsertEntry, RemoveEntry, SetHeader}
use Rattle.model.specs.Kinds.{record_length}
use Rattle.model.specs.Edits.{edited}
use Rattle.model.specs.EditRules.{place_ok, count_ok, in_use, entries_in}
use Rattle.model.proofs.FileOf.{file-of-codeplug}
use Rattle.model.proofs.Shape.{Shaped, bytes-codeplug, channel-count, codeplug-of-file}
use Rattle.edits.specs.Result.{result}
use Rattle.edits.specs.ResultValidity.{result_rule}
use Rattle.edits.proofs.AcceptedCodeplug.{AcceptedCodeplug, has-layout, codeplug-accepted}
use Rattle.edits.proofs.HeaderEdit.{set-header-validated}
use Rattle.edits.proofs.BankEdits.{remove-bank-validated}
use Rattle.edits.proofs.BankKinds.{insert-bank-is, rename-bank-is, insert-entry-is, remove-entry-is}
use Rattle.edits.proofs.ChannelEdits.{insert-channel-is, remove-channel-is, replace-channel-is}
use Rattle.edits.proofs.ContactEdits.{insert-contact-is, remove-contact-is, replace-contact-is}
use Rattle.edits.proofs.EditShape.{up_to, below, may-grow, entries_fit, edited-shaped}
use Rattle.fields.specs.Rule.{Valid}

-- ---- reading its file

pub edit-validated : (ed : Edition) (k : Kind) (i j : ℕ) (r : List ℕ) (c : Codeplug) → AcceptedCodeplug ed c → AllBytes r → length r ≡ record_length k
    → place_ok k i j c ≡ true → count_ok k i c ≡ true → in_use k i c ≡ false
    → file_rule ed (codeplug_bytes (edited k i j r c)) ≡ result_rule ed k i j r (codeplug_bytes c)
unfolding edited
edit-validated ed InsertContact i j r c a b w p n u =
    insert-contact-is ed c a i r (up_to i (length c.contacts) _ p) (may-grow (length c.contacts) a.shaped.contacts_fit n) w b
edit-validated ed RemoveContact i j r c a b w p n u = remove-contact-is ed c a i (below i (length c.contacts) _ p) u
edit-validated ed ReplaceContact i j r c a b w p n u = replace-contact-is ed c a i r (below i (length c.contacts) _ p) w b
edit-validated ed InsertChannel i j r c a b w p n u =
    insert-channel-is ed c a i r (up_to i (length c.channels) _ p) (may-grow (length c.channels) a.shaped.channels_fit n) w b
edit-validated ed RemoveChannel i j r c a b w p n u = remove-channel-is ed c a i (below i (length c.channels) _ p) u
edit-validated ed ReplaceChannel i j r c a b w p n u = replace-channel-is ed c a i r (below i (length c.channels) _ p) w b
edit-validated ed InsertBank i j r c a b w p n u =
    insert-bank-is ed c a i r (up_to i (length c.banks) _ p) (may-grow (length c.banks) a.shaped.banks_fit n) w b
edit-validated ed RemoveBank i j r c a b w p n u = remove-bank-validated ed c a i (below i (length c.banks) _ p)
edit-validated ed RenameBank i j r c a b w p n u = rename-bank-is ed c a i (below i (length c.banks) _ p) r w b
edit-validated ed InsertEntry i j r c a b w p n u =
    let g = below i (length c.banks) (leb j (entries_in i c.banks)) p in
    insert-entry-is ed c a i g j r (leb-true j (entries_in i c.banks) (and_right (ltb i (length c.banks)) _ p))
    (may-grow (entries_in i c.banks) (entries_fit ed c a i g) n) w b
    ∙ rw (channel-count c a.shaped)
edit-validated ed RemoveEntry i j r c a b w p n u =
    remove-entry-is ed c a i (below i (length c.banks) _ p) j
    (ltb-true j (entries_in i c.banks) (and_right (ltb i (length c.banks)) _ p))
edit-validated ed SetHeader i j r c a b w p n u = set-header-validated ed c a r w b

-- ---- an edit of an accepted file

module _ (ed : Edition) (k : Kind) (i j : ℕ) (r f : List ℕ) (bytes : AllBytes f) (record-bytes : AllBytes r) (valid : file_rule ed f ≡ Valid)
    (wide : length r ≡ record_length k) (place : place_ok k i j (codeplug_of f) ≡ true) (count : count_ok k i (codeplug_of f) ≡ true)
    (free : in_use k i (codeplug_of f) ≡ false) where
  pub result-validated : file_rule ed (result k i j r f) ≡ result_rule ed k i j r f
  unfolding result
  result-validated =
      edit-validated ed k i j r (codeplug_of f) (codeplug-accepted ed f valid bytes) record-bytes wide place count free
      ∙ ap (λ (x : List ℕ). result_rule ed k i j r x) (file-of-codeplug f (has-layout ed f valid bytes))

  pub result-shaped : Shaped (edited k i j r (codeplug_of f))
  result-shaped = edited-shaped ed k i j r (codeplug_of f) (codeplug-accepted ed f valid bytes) record-bytes wide place count free

  -- the codeplug of the result is the edited one
  pub result-codeplug : codeplug_of (result k i j r f) ≡ edited k i j r (codeplug_of f)
  unfolding result
  result-codeplug = codeplug-of-file (edited k i j r (codeplug_of f)) result-shaped

  pub result-bytes : AllBytes (result k i j r f)
  unfolding result
  result-bytes = bytes-codeplug (edited k i j r (codeplug_of f)) result-shaped
