-- Edits 7, 9, 10 and 11: an empty bank inserted, a bank's new name, an entry inserted and removed.
use Prim.Native.Nat.{ℕ, zero, suc, ◌+◌, ◌*◌, ◌≤◌, ◌<◌}
use mathlib.Core.Path.{◌≡◌, refl, sym, ◌∙◌}
use mathlib.Core.List.{List, [], ◌∷◌}
use native.Mathlib.Omega.{arith}
use lib.ListN.{length, take, drop, get_or}
use lib.Seq.{length-take-le}
use lib.Dec.{ltb}
use Rattle.fields.specs.Bytes.{little}
use Rattle.text.specs.Text.{text_ok}
use Rattle.fields.specs.Rule.{◌then◌, unless, Valid}
use Rattle.fields.proofs.Laws.{then-of-valid, unless-passes, AllBytes, little-lt}
use Rattle.m17.specs.declared.Edition.{Edition}
use Rattle.layout.specs.Banks.{bank_place}
use Rattle.file_rule.specs.File.{file_rule}
use Rattle.model.specs.Codeplug.{Bank, Codeplug, bank_bytes, codeplug_bytes}
use Rattle.model.specs.Edits.{insert_at, remove_at, replace_at, change_at, with_banks, renamed, with_entries}
use Rattle.model.specs.EditRules.{entries_in}
use Rattle.model.proofs.Blocks.{Every, Small, every-get_or, every_take, every_drop, length-bank_bytes}
use Rattle.model.proofs.Shape.{BankShaped, Shaped}
use Rattle.model.proofs.Validated.{entries_of, entries_of-append, entries_of-passes, bank_ok, bank_ok-passes, BankValid}
use Rattle.edits.specs.ResultValidity.{may_grow}
use Rattle.edits.proofs.AcceptedCodeplug.{AcceptedCodeplug}
use Rattle.edits.proofs.ListEdits.{length-insert, length-remove, change-is, every-insert, every-remove}
use Rattle.edits.proofs.BankEdits.{no_bank, shaped-replace-bank, length-replace-bank, replace-bank-validated, replace-bank-short, shaped-insert-bank, insert-bank-validated}
use Rattle.format.specs.declared.refusals.Reason.TheVariants as reason

-- how many entries bank i has
pub entries-in : (i : ℕ) (l : List Bank) → entries_in i l ≡ length (get_or l i no_bank).entries
unfolding entries_in
entries-in i [] = refl
entries-in zero (b ∷ l) = refl
entries-in (suc i) (b ∷ l) = entries-in i l

-- one entry among valid ones
one_entry : (n p j v : ℕ) (l : List ℕ) → j ≤ length l → Every (λ x. x < n) l
    → entries_of n p (insert_at j v l) ≡ unless (ltb v n) reason.BankEntry (p + j * 2)
unfolding insert_at ◌then◌ entries_of
one_entry n p j v l h g =
    let e : p + length (take j l) * 2 ≡ p + j * 2 = omega (arith, length-take-le j l h) in
    entries_of-append n p (take j l) (v ∷ drop j l)
    ∙ rw (
      entries_of-passes n p (take j l) (every_take (λ x. x < n) j l g),
      e,
      entries_of-passes n (p + j * 2 + 2) (drop j l) (every_drop (λ x. x < n) j l g),
    )
    (then-of-valid (unless (ltb v n) reason.BankEntry (p + j * 2)))

module _ (ed : Edition) (c : Codeplug) (a : AcceptedCodeplug ed c) where
  -- ---- 7

  module _ (i : ℕ) (r : List ℕ) (g : i ≤ length c.banks) (m : length c.banks < 65535) (w : length r ≡ 32) (b : AllBytes r) where
    empty-shaped : BankShaped (record { name = r; entries = [] })
    empty-shaped = record { wide = w; bytes = b; fits = omega arith; small = tt }

    pub shaped-insert : Shaped (with_banks (insert_at i (record { name = r; entries = [] }) c.banks) c)
    shaped-insert = shaped-insert-bank ed c a i (record { name = r; entries = [] }) g m empty-shaped

    pub insert-bank-is : file_rule ed (codeplug_bytes (with_banks (insert_at i (record { name = r; entries = [] }) c.banks) c))
        ≡ may_grow 38 (codeplug_bytes c) then unless (text_ok r) reason.Text (bank_place (codeplug_bytes c) i + 4)
    unfolding may_grow bank_ok entries_of
    insert-bank-is =
        let e : 4 + length (bank_bytes (record { name = r; entries = [] })) ≡ 38 =
        omega (arith, length-bank_bytes (record { name = r; entries = [] }) w)
        in
        insert-bank-validated ed c a i (record { name = r; entries = [] }) g m empty-shaped
        ∙ rw (e, then-of-valid (unless (text_ok r) reason.Text (bank_place (codeplug_bytes c) i + 4)))

  module _ (i : ℕ) (g : i < length c.banks) where
    -- bank i
    abbrev old : Bank
    old = get_or c.banks i no_bank

    old-shaped : BankShaped old
    old-shaped = every-get_or BankShaped c.banks i no_bank a.shaped.banks g

    old-valid : BankValid (length c.channels) old
    old-valid = every-get_or (BankValid (length c.channels)) c.banks i no_bank a.banks g

    -- ---- 9

    module _ (r : List ℕ) (w : length r ≡ 32) (b : AllBytes r) where
      named-shaped : BankShaped (renamed r old)
      unfolding renamed
      named-shaped = record { wide = w; bytes = b; fits = old-shaped.fits; small = old-shaped.small }

      named-length : length (bank_bytes (renamed r old)) ≡ length (bank_bytes old)
      unfolding renamed
      named-length = length-bank_bytes (renamed r old) w ∙ sym (length-bank_bytes old old-shaped.wide)

      named_ok : (n p : ℕ) → BankValid n old → bank_ok n p (renamed r old) ≡ unless (text_ok r) reason.Text p
      unfolding renamed bank_ok
      named_ok n p h = rw (entries_of-passes n (p + 34) old.entries h.below) (then-of-valid (unless (text_ok r) reason.Text p))

      pub shaped-rename : Shaped (with_banks (change_at i (renamed r) c.banks) c)
      shaped-rename = rw (change-is i (renamed r) c.banks no_bank g) (shaped-replace-bank ed c a i (renamed r old) g named-shaped)

      pub rename-bank-is : file_rule ed (codeplug_bytes (with_banks (change_at i (renamed r) c.banks) c))
          ≡ unless (text_ok r) reason.Text (bank_place (codeplug_bytes c) i)
      rename-bank-is =
          rw (change-is i (renamed r) c.banks no_bank g)
          (replace-bank-short ed c a i (renamed r old) g named-shaped (omega (arith, named-length))
          ∙ named_ok (length c.channels) (bank_place (codeplug_bytes c) i) old-valid)

    -- ---- 10

    module _ (j : ℕ) (r : List ℕ) (k : j ≤ entries_in i c.banks) (m : entries_in i c.banks < 65535) (w : length r ≡ 2) (b : AllBytes r)
      where
        abbrev fuller : Bank
        fuller = with_entries (insert_at j (little r)) old

        in-old : j ≤ length old.entries
        in-old = omega (arith, entries-in i c.banks)

        new-small : little r < 65536
        new-small = rw w at (little-lt r b)

        fuller-shaped : BankShaped fuller
        unfolding with_entries
        fuller-shaped =
            record {
              wide = old-shaped.wide;
              bytes = old-shaped.bytes;
              fits = omega (arith, length-insert j (little r) old.entries in-old, entries-in i c.banks);
              small = every-insert Small j (little r) old.entries new-small old-shaped.small;
            }

        fuller-length : length (bank_bytes fuller) ≡ length (bank_bytes old) + 2
        unfolding with_entries
        fuller-length =
            omega (
              arith,
              length-bank_bytes fuller old-shaped.wide,
              length-bank_bytes old old-shaped.wide,
              length-insert j (little r) old.entries in-old,
            )

        fuller-ok : (n p : ℕ) → BankValid n old → bank_ok n p fuller ≡ unless (ltb (little r) n) reason.BankEntry (p + 34 + j * 2)
        unfolding with_entries bank_ok ◌then◌
        fuller-ok n p h =
            rw (unless-passes (text_ok old.name) reason.Text p h.text) (one_entry n (p + 34) j (little r) old.entries in-old h.below)

        pub shaped-insert-entry : Shaped (with_banks (change_at i (with_entries (insert_at j (little r))) c.banks) c)
        shaped-insert-entry =
            rw (change-is i (with_entries (insert_at j (little r))) c.banks no_bank g) (shaped-replace-bank ed c a i fuller g fuller-shaped)

        pub insert-entry-is : file_rule ed (codeplug_bytes (with_banks (change_at i (with_entries (insert_at j (little r))) c.banks) c))
            ≡ may_grow 2 (codeplug_bytes c) then unless (ltb (little r) (length c.channels)) reason.BankEntry (bank_place (codeplug_bytes c) i + 34 + j * 2)
        unfolding may_grow
        insert-entry-is =
            let e : length (codeplug_bytes (with_banks (replace_at i fuller c.banks) c)) ≡ length (codeplug_bytes c) + 2 =
            omega (arith, length-replace-bank ed c a i fuller g fuller-shaped, fuller-length)
            in
            rw (change-is i (with_entries (insert_at j (little r))) c.banks no_bank g)
            (replace-bank-validated ed c a i fuller g fuller-shaped
            ∙ rw (e, fuller-ok (length c.channels) (bank_place (codeplug_bytes c) i) old-valid))

    -- ---- 11

    module _ (j : ℕ) (k : j < entries_in i c.banks) where
      abbrev emptier : Bank
      emptier = with_entries (remove_at j) old

      below_old : j < length old.entries
      below_old = omega (arith, entries-in i c.banks)

      emptier-shaped : BankShaped emptier
      unfolding with_entries
      emptier-shaped =
          record {
            wide = old-shaped.wide;
            bytes = old-shaped.bytes;
            fits = omega (arith, length-remove j old.entries below_old, old-shaped.fits);
            small = every-remove Small j old.entries old-shaped.small;
          }

      emptier-length : length (bank_bytes emptier) + 2 ≡ length (bank_bytes old)
      unfolding with_entries
      emptier-length =
          omega (
            arith,
            length-bank_bytes emptier old-shaped.wide,
            length-bank_bytes old old-shaped.wide,
            length-remove j old.entries below_old,
          )

      emptier-valid : (n : ℕ) → BankValid n old → BankValid n emptier
      unfolding with_entries
      emptier-valid n h = record { text = h.text; below = every-remove (λ x. x < n) j old.entries h.below }

      pub shaped-remove-entry : Shaped (with_banks (change_at i (with_entries (remove_at j)) c.banks) c)
      shaped-remove-entry =
          rw (change-is i (with_entries (remove_at j)) c.banks no_bank g) (shaped-replace-bank ed c a i emptier g emptier-shaped)

      pub remove-entry-is : file_rule ed (codeplug_bytes (with_banks (change_at i (with_entries (remove_at j)) c.banks) c)) ≡ Valid
      remove-entry-is =
          let n = length c.channels in
          rw (change-is i (with_entries (remove_at j)) c.banks no_bank g)
          (replace-bank-short ed c a i emptier g emptier-shaped (omega (arith, emptier-length))
          ∙ bank_ok-passes n (bank_place (codeplug_bytes c) i) emptier (emptier-valid n old-valid))
