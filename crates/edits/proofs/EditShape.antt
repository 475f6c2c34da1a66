-- The twelve edits keep the shape: under the tests that come before a result is read (33, 34, 35), the records of the edited codeplug
-- have their lengths, and its counts and offsets have room.
use Prim.Native.Nat.{ℕ, ◌≤◌, ◌<◌}
use mathlib.Core.Path.{◌≡◌}
use mathlib.Core.Bool.{Bool, true, false, ◌&&◌, not}
use mathlib.Core.List.{List}
use native.Mathlib.Omega.{arith}
use lib.ListN.{length}
use lib.Dec.{leb, ltb, eqb}
use borrow.Author.Tests.{leb-true, ltb-true, eqb-false, not-true}
use Rattle.fields.proofs.Laws.{AllBytes}
use Rattle.bits.proofs.Laws.{and_left, and_right}
use Rattle.m17.specs.declared.Edition.{Edition}
use Rattle.model.specs.Codeplug.{Codeplug}
use Rattle.model.specs.declared.Kind.{Kind}
use Rattle.model.specs.declared.Kind.TheVariants.{InsertContact, RemoveContact, ReplaceContact, InsertChannel, RemoveChannel, ReplaceChannel, InsertBank, RemoveBank, RenameBank, InsertEntry, RemoveEntry, SetHeader}
use Rattle.model.specs.Kinds.{record_length}
use Rattle.model.specs.Edits.{edited}
use Rattle.model.specs.EditRules.{place_ok, count_ok, in_use, entries_in}
use Rattle.model.proofs.Shape.{BankShaped, Shaped}
use Rattle.model.proofs.Blocks.{every-get_or}
use Rattle.edits.proofs.AcceptedCodeplug.{AcceptedCodeplug}
use Rattle.edits.proofs.HeaderEdit.{shaped-preamble}
use Rattle.edits.proofs.BankEdits.{no_bank, shaped-remove-bank}
use Rattle.edits.proofs.BankKinds.{entries-in, shaped-insert, shaped-rename, shaped-insert-entry, shaped-remove-entry}
use Rattle.edits.proofs.ChannelEdits.{shaped-insert-channel, shaped-remove-channel, shaped-replace-channel}
use Rattle.edits.proofs.ContactEdits.{shaped-insert-contact, shaped-remove-contact, shaped-replace-contact}

-- ---- what the tests say

pub up_to : (i n : ℕ) (t : Bool) → (leb i n && t) ≡ true → i ≤ n
up_to i n t h = leb-true i n (and_left (leb i n) t h)

pub below : (i n : ℕ) (t : Bool) → (ltb i n && t) ≡ true → i < n
below i n t h = ltb-true i n (and_left (ltb i n) t h)

-- a count that may grow
pub may-grow : (n : ℕ) → n < 65536 → not (eqb n 65535) ≡ true → n < 65535
may-grow n h g =
    let d : n ≡ 65535 → ⊥ = eqb-false n 65535 (not-true (eqb n 65535) g) in
    omega arith

pub entries_fit : (ed : Edition) (c : Codeplug) → AcceptedCodeplug ed c → (i : ℕ) → i < length c.banks → entries_in i c.banks < 65536
entries_fit ed c a i g =
    let s = every-get_or BankShaped c.banks i no_bank a.shaped.banks g in
    omega (arith, entries-in i c.banks, s.fits)

-- ---- the shape of the codeplug after an edit

pub edited-shaped : (ed : Edition) (k : Kind) (i j : ℕ) (r : List ℕ) (c : Codeplug) → AcceptedCodeplug ed c → AllBytes r → length r ≡ record_length k
    → place_ok k i j c ≡ true → count_ok k i c ≡ true → in_use k i c ≡ false → Shaped (edited k i j r c)
unfolding edited
edited-shaped ed InsertContact i j r c a b w p n u =
    shaped-insert-contact ed c a i r (up_to i (length c.contacts) _ p) (may-grow (length c.contacts) a.shaped.contacts_fit n) w b
edited-shaped ed RemoveContact i j r c a b w p n u = shaped-remove-contact ed c a i (below i (length c.contacts) _ p) u
edited-shaped ed ReplaceContact i j r c a b w p n u = shaped-replace-contact ed c a i r (below i (length c.contacts) _ p) w b
edited-shaped ed InsertChannel i j r c a b w p n u =
    shaped-insert-channel ed c a i r (up_to i (length c.channels) _ p) (may-grow (length c.channels) a.shaped.channels_fit n) w b
edited-shaped ed RemoveChannel i j r c a b w p n u = shaped-remove-channel ed c a i (below i (length c.channels) _ p) u
edited-shaped ed ReplaceChannel i j r c a b w p n u = shaped-replace-channel ed c a i r (below i (length c.channels) _ p) w b
edited-shaped ed InsertBank i j r c a b w p n u =
    shaped-insert ed c a i r (up_to i (length c.banks) _ p) (may-grow (length c.banks) a.shaped.banks_fit n) w b
edited-shaped ed RemoveBank i j r c a b w p n u = shaped-remove-bank ed c a i (below i (length c.banks) _ p)
edited-shaped ed RenameBank i j r c a b w p n u = shaped-rename ed c a i (below i (length c.banks) _ p) r w b
edited-shaped ed InsertEntry i j r c a b w p n u =
    let g = below i (length c.banks) (leb j (entries_in i c.banks)) p in
    shaped-insert-entry ed c a i g j r (leb-true j (entries_in i c.banks) (and_right (ltb i (length c.banks)) _ p))
    (may-grow (entries_in i c.banks) (entries_fit ed c a i g) n) w b
edited-shaped ed RemoveEntry i j r c a b w p n u =
    shaped-remove-entry ed c a i (below i (length c.banks) _ p) j
    (ltb-true j (entries_in i c.banks) (and_right (ltb i (length c.banks)) _ p))
edited-shaped ed SetHeader i j r c a b w p n u = shaped-preamble ed c a r w b
