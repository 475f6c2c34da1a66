-- How long the result of an edit is.
use Prim.Native.Nat.{ℕ, ◌+◌, ◌*◌, ◌≤◌, ◌<◌}
use mathlib.Core.Path.{◌≡◌, ap, sym, ◌∙◌}
use mathlib.Core.Bool.{true, false}
use mathlib.Core.List.{List, [], map}
use native.Mathlib.Omega.{arith}
use lib.ListN.{length, get_or, length-map}
use lib.Dec.{leb, ltb}
use borrow.Author.Tests.{leb-true, ltb-true}
use Rattle.fields.specs.Bytes.{little}
use Rattle.fields.proofs.Laws.{AllBytes}
use Rattle.bits.proofs.Laws.{and_right}
use Rattle.m17.specs.declared.Edition.{Edition}
use Rattle.layout.specs.Places.{channel_count, bank_count}
use Rattle.layout.specs.Banks.{entry_count, bank_place}
use Rattle.file_rule.specs.File.{file_rule}
use Rattle.model.specs.Codeplug.{Bank, Codeplug, bank_bytes, codeplug_bytes, codeplug_of}
use Rattle.model.specs.declared.Kind.{Kind}
use Rattle.model.specs.declared.Kind.TheVariants.{InsertContact, RemoveContact, ReplaceContact, InsertChannel, RemoveChannel, ReplaceChannel, InsertBank, RemoveBank, RenameBank, InsertEntry, RemoveEntry, SetHeader}
use Rattle.model.specs.Kinds.{record_length}
use Rattle.model.specs.Edits.{insert_at, remove_at, replace_at, change_at, raised, lowered, move_contact, move_entries, with_contacts, with_channels, with_banks, with_preamble, move_contacts, move_channels, renamed, with_entries, edited}
use Rattle.model.specs.EditRules.{place_ok, count_ok, in_use, entries_in}
use Rattle.model.proofs.Blocks.{every-get_or, banks_bytes, length-bank_bytes}
use Rattle.model.specs.HasLayout.{HasLayout}
use Rattle.model.proofs.FileOf.{file-of-codeplug, channels-start, offsets-start, banks-start}
use Rattle.model.proofs.Shape.{BankShaped, Shaped, length-codeplug, codeplug-of-file, bank-count}
use Rattle.edits.specs.Result.{result}
use Rattle.edits.specs.ResultValidity.{result_length}
use Rattle.edits.proofs.AcceptedCodeplug.{AcceptedCodeplug, has-layout, codeplug-accepted}
use Rattle.edits.proofs.ListEdits.{length-insert, length-remove, length-replace, change-is}
use Rattle.edits.proofs.BankEdits.{no_bank, bytes-insert, bytes-remove, bytes-replace}
use Rattle.edits.proofs.BankKinds.{entries-in}
use Rattle.edits.proofs.ChannelEdits.{moved_length}
use Rattle.edits.proofs.EditShape.{up_to, below, edited-shaped}
use Rattle.layout.proofs.Laws.{bank-inside}
use Rattle.model.proofs.PlaceLaws.{entries_at, bank-behind}
use Rattle.fields.specs.Rule.{Valid}

-- ---- an edit of an accepted codeplug, whose result is shaped

module _ (ed : Edition) (c : Codeplug) (a : AcceptedCodeplug ed c) where
  old-bank : (i : ℕ) → i < length c.banks → BankShaped (get_or c.banks i no_bank)
  old-bank i g = every-get_or BankShaped c.banks i no_bank a.shaped.banks g

  old-length : (i : ℕ) → i < length c.banks → length (bank_bytes (get_or c.banks i no_bank)) ≡ 34 + entries_in i c.banks * 2
  old-length i g = length-bank_bytes (get_or c.banks i no_bank) (old-bank i g).wide ∙ rw (entries-in i c.banks)

  -- the entries of bank i of the file
  entries-of : (i : ℕ) → i < length c.banks → entry_count (codeplug_bytes c) (bank_place (codeplug_bytes c) i) ≡ entries_in i c.banks
  entries-of i g =
      let h = a.shaped in
      sym (entries_at (codeplug_bytes c) i (omega (arith, bank-count c h))) ∙ ap (λ (x : Codeplug). entries_in i x.banks) (codeplug-of-file c h)

  contacts-changed : (l m : List (List ℕ)) → length m ≡ length c.channels → Shaped (with_contacts l (with_channels m c))
      → length (codeplug_bytes (with_contacts l (with_channels m c))) + length c.contacts * 39 ≡ length (codeplug_bytes c) + length l * 39
  unfolding with_contacts with_channels
  contacts-changed l m e h = omega (arith, length-codeplug (with_contacts l (with_channels m c)) h, length-codeplug c a.shaped)

  contacts-only : (l : List (List ℕ)) → Shaped (with_contacts l c)
      → length (codeplug_bytes (with_contacts l c)) + length c.contacts * 39 ≡ length (codeplug_bytes c) + length l * 39
  unfolding with_contacts
  contacts-only l h = omega (arith, length-codeplug (with_contacts l c) h, length-codeplug c a.shaped)

  channels-changed : (l : List (List ℕ)) (m : List Bank) → length m ≡ length c.banks
      → length (banks_bytes m) ≡ length (banks_bytes c.banks) → Shaped (with_channels l (with_banks m c))
      → length (codeplug_bytes (with_channels l (with_banks m c))) + length c.channels * 90 ≡ length (codeplug_bytes c) + length l * 90
  unfolding with_channels with_banks
  channels-changed l m e d h = omega (arith, length-codeplug (with_channels l (with_banks m c)) h, length-codeplug c a.shaped)

  channels-only : (l : List (List ℕ)) → Shaped (with_channels l c)
      → length (codeplug_bytes (with_channels l c)) + length c.channels * 90 ≡ length (codeplug_bytes c) + length l * 90
  unfolding with_channels
  channels-only l h = omega (arith, length-codeplug (with_channels l c) h, length-codeplug c a.shaped)

  banks-changed : (l : List Bank) → Shaped (with_banks l c)
      → length (codeplug_bytes (with_banks l c)) + (length c.banks * 4 + length (banks_bytes c.banks))
      ≡ length (codeplug_bytes c) + (length l * 4 + length (banks_bytes l))
  unfolding with_banks
  banks-changed l h = omega (arith, length-codeplug (with_banks l c) h, length-codeplug c a.shaped)

  header-changed : (s : List ℕ) → Shaped (with_preamble s c) → length (codeplug_bytes (with_preamble s c)) ≡ length (codeplug_bytes c)
  unfolding with_preamble
  header-changed s h = length-codeplug (with_preamble s c) h ∙ sym (length-codeplug c a.shaped)

  -- bank i made by g, which is so many bytes longer or shorter
  bank-changed : (i : ℕ) (g : Bank → Bank) → i < length c.banks → Shaped (with_banks (change_at i g c.banks) c)
      → length (codeplug_bytes (with_banks (change_at i g c.banks) c)) + length (bank_bytes (get_or c.banks i no_bank))
      ≡ length (codeplug_bytes c) + length (bank_bytes (g (get_or c.banks i no_bank)))
  bank-changed i g l h =
      let e = change-is i g c.banks no_bank l in
      let b = g (get_or c.banks i no_bank) in
      let s : Shaped (with_banks (replace_at i b c.banks) c) = rw e at h in
      rw e
      (omega (arith, banks-changed (replace_at i b c.banks) s, length-replace i b c.banks l, bytes-replace i b c.banks l))

renamed-length : (ed : Edition) (c : Codeplug) (a : AcceptedCodeplug ed c) (i : ℕ) (r : List ℕ) → i < length c.banks → length r ≡ 32
    → length (bank_bytes (renamed r (get_or c.banks i no_bank))) ≡ length (bank_bytes (get_or c.banks i no_bank))
unfolding renamed
renamed-length ed c a i r g w =
    length-bank_bytes (renamed r (get_or c.banks i no_bank)) w ∙ sym (length-bank_bytes (get_or c.banks i no_bank) (old-bank ed c a i g).wide)

fuller-length : (ed : Edition) (c : Codeplug) (a : AcceptedCodeplug ed c) (i j x : ℕ) → i < length c.banks → j ≤ entries_in i c.banks
    → length (bank_bytes (with_entries (insert_at j x) (get_or c.banks i no_bank))) ≡ length (bank_bytes (get_or c.banks i no_bank)) + 2
unfolding with_entries
fuller-length ed c a i j x g k =
    let b = get_or c.banks i no_bank in
    let s = old-bank ed c a i g in
    omega (
      arith,
      length-bank_bytes (with_entries (insert_at j x) b) s.wide,
      length-bank_bytes b s.wide,
      length-insert j x b.entries (omega (arith, entries-in i c.banks)),
    )

emptier-length : (ed : Edition) (c : Codeplug) (a : AcceptedCodeplug ed c) (i j : ℕ) → i < length c.banks → j < entries_in i c.banks
    → length (bank_bytes (with_entries (remove_at j) (get_or c.banks i no_bank))) + 2 ≡ length (bank_bytes (get_or c.banks i no_bank))
unfolding with_entries
emptier-length ed c a i j g k =
    let b = get_or c.banks i no_bank in
    let s = old-bank ed c a i g in
    omega (
      arith,
      length-bank_bytes (with_entries (remove_at j) b) s.wide,
      length-bank_bytes b s.wide,
      length-remove j b.entries (omega (arith, entries-in i c.banks)),
    )

pub edit-length : (ed : Edition) (k : Kind) (i j : ℕ) (r : List ℕ) (c : Codeplug) → AcceptedCodeplug ed c → Shaped (edited k i j r c) → length r ≡ record_length k
    → place_ok k i j c ≡ true → length (codeplug_bytes (edited k i j r c)) ≡ result_length k i (codeplug_bytes c)
unfolding edited move_contacts move_channels
edit-length ed InsertContact i j r c a h w p =
    let l = c.contacts in
    omega (
      arith,
      contacts-changed ed c a (insert_at i r l) (map (move_contact (raised i)) c.channels) (length-map c.channels (move_contact (raised i))) h,
      length-insert i r l (up_to i (length l) _ p),
    )
edit-length ed RemoveContact i j r c a h w p =
    let l = c.contacts in
    omega (
      arith,
      contacts-changed ed c a (remove_at i l) (map (move_contact (lowered i)) c.channels) (length-map c.channels (move_contact (lowered i))) h,
      length-remove i l (below i (length l) _ p),
    )
edit-length ed ReplaceContact i j r c a h w p =
    let l = c.contacts in
    omega (arith, contacts-only ed c a (replace_at i r l) h, length-replace i r l (below i (length l) _ p))
edit-length ed InsertChannel i j r c a h w p =
    let l = c.channels in
    let m = map (move_entries (raised i)) c.banks in
    omega (
      arith,
      channels-changed ed c a (insert_at i r l) m (length-map c.banks (move_entries (raised i)))
          (moved_length (raised i) c.banks a.shaped.banks) h,
      length-insert i r l (up_to i (length l) _ p),
    )
edit-length ed RemoveChannel i j r c a h w p =
    let l = c.channels in
    let m = map (move_entries (lowered i)) c.banks in
    omega (
      arith,
      channels-changed ed c a (remove_at i l) m (length-map c.banks (move_entries (lowered i)))
          (moved_length (lowered i) c.banks a.shaped.banks) h,
      length-remove i l (below i (length l) _ p),
    )
edit-length ed ReplaceChannel i j r c a h w p =
    let l = c.channels in
    omega (arith, channels-only ed c a (replace_at i r l) h, length-replace i r l (below i (length l) _ p))
edit-length ed InsertBank i j r c a h w p =
    let l = c.banks in
    let b : Bank = record { name = r; entries = [] } in
    omega (
      arith,
      banks-changed ed c a (insert_at i b l) h,
      length-insert i b l (up_to i (length l) _ p),
      bytes-insert i b l,
      length-bank_bytes b w,
    )
edit-length ed RemoveBank i j r c a h w p =
    let l = c.banks in
    let g = below i (length l) _ p in
    omega (
      arith,
      banks-changed ed c a (remove_at i l) h,
      length-remove i l g,
      bytes-remove i l g,
      old-length ed c a i g,
      ap (λ (n : ℕ). n * 2) (entries-of ed c a i g),
    )
edit-length ed RenameBank i j r c a h w p =
    let g = below i (length c.banks) _ p in
    omega (arith, bank-changed ed c a i (renamed r) g h, renamed-length ed c a i r g w)
edit-length ed InsertEntry i j r c a h w p =
    let n = entries_in i c.banks in
    let g = below i (length c.banks) (leb j n) p in
    let k : j ≤ n = leb-true j n (and_right (ltb i (length c.banks)) _ p) in
    omega (arith, bank-changed ed c a i (with_entries (insert_at j (little r))) g h, fuller-length ed c a i j (little r) g k)
edit-length ed RemoveEntry i j r c a h w p =
    let n = entries_in i c.banks in
    let g = below i (length c.banks) (ltb j n) p in
    let k : j < n = ltb-true j n (and_right (ltb i (length c.banks)) _ p) in
    omega (arith, bank-changed ed c a i (with_entries (remove_at j)) g h, emptier-length ed c a i j g k)
edit-length ed SetHeader i j r c a h w p = header-changed ed c a _ h

-- ---- an edit of an accepted file

pub result-long : (ed : Edition) (k : Kind) (i j : ℕ) (r f : List ℕ) → AllBytes f → AllBytes r → file_rule ed f ≡ Valid → length r ≡ record_length k
    → place_ok k i j (codeplug_of f) ≡ true → count_ok k i (codeplug_of f) ≡ true → in_use k i (codeplug_of f) ≡ false
    → length (result k i j r f) ≡ result_length k i f
unfolding result
result-long ed k i j r f bytes record-bytes valid wide place count free =
    let a = codeplug-accepted ed f valid bytes in
    edit-length ed k i j r (codeplug_of f) a (edited-shaped ed k i j r (codeplug_of f) a record-bytes wide place count free) wide place
    ∙ ap (λ (x : List ℕ). result_length k i x) (file-of-codeplug f (has-layout ed f valid bytes))

-- ---- what is taken away is there

pub bank-fits : (f : List ℕ) (i : ℕ) → HasLayout f → i < bank_count f → 38 + entry_count f (bank_place f i) * 2 ≤ length f
bank-fits f i l b =
    omega (arith, bank-inside f i l.banks b, bank-behind f i, banks-start f, offsets-start f, channels-start f)

pub channel-fits : (f : List ℕ) (i : ℕ) → HasLayout f → i < channel_count f → 90 ≤ length f
channel-fits f i l g = omega (arith, l.table, banks-start f, offsets-start f, channels-start f)
