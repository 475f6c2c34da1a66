-- Edits 7 to 11: banks inserted, removed and changed. Of the result only the new name or entry can refuse, since every other bank is
-- valid wherever it stands.
use Prim.Native.Nat.{ℕ, suc, ◌+◌, ◌*◌, ◌^◌, ◌≤◌, ◌<◌}
use mathlib.Core.Path.{◌≡◌, ap, ◌∙◌}
use mathlib.Core.List.{List, [], ◌∷◌, ◌++◌}
use native.Mathlib.Omega.{arith}
use lib.ListN.{length, take, drop, get_or, length-append}
use lib.Seq.{drop-cons}
use lib.Dec.{leb}
use borrow.Author.Tests.{le-leb}
use Rattle.fields.specs.Rule.{◌then◌, unless, Valid}
use Rattle.fields.proofs.Laws.{then-of-valid, unless-passes}
use Rattle.m17.specs.declared.Edition.{Edition}
use Rattle.layout.specs.Banks.{bank_place}
use Rattle.file_rule.specs.File.{file_rule}
use Rattle.model.specs.Codeplug.{Bank, Codeplug, bank_bytes, codeplug_bytes}
use Rattle.model.specs.Edits.{insert_at, remove_at, replace_at, with_banks}
use Rattle.model.proofs.Blocks.{Every, every_take, every_drop, banks_bytes, banks_bytes-cons, banks_bytes-append, banks_bytes-split, length-bank_bytes}
use Rattle.model.proofs.Shape.{BankShaped, Shaped, table_start, length-codeplug, bank-place}
use Rattle.model.proofs.Validated.{bank_ok, banks_ok, BankValid, banks_ok-append, banks_ok-passes}
use Rattle.edits.proofs.AcceptedCodeplug.{AcceptedCodeplug, file-validated, contacts-pass, channels-pass}
use Rattle.edits.proofs.ListEdits.{length-insert, length-remove, length-replace, every-insert, every-remove, every-replace}
use Rattle.format.specs.declared.refusals.Reason.TheVariants as reason

-- ---- the bytes of banks

abbrev pub no_bank : Bank
no_bank = record { name = []; entries = [] }

pub length-cons : (b : Bank) (l : List Bank) → length (banks_bytes (b ∷ l)) ≡ length (bank_bytes b) + length (banks_bytes l)
length-cons b l = ap length (banks_bytes-cons b l) ∙ length-append (bank_bytes b) (banks_bytes l)

length_both : (a b : List Bank) → length (banks_bytes (a ++ b)) ≡ length (banks_bytes a) + length (banks_bytes b)
length_both a b = ap length (banks_bytes-append a b) ∙ length-append (banks_bytes a) (banks_bytes b)

length-split : (l : List Bank) (i : ℕ) → length (banks_bytes l) ≡ length (banks_bytes (take i l)) + length (banks_bytes (drop i l))
length-split l i = ap length (banks_bytes-split l i) ∙ length-append (banks_bytes (take i l)) (banks_bytes (drop i l))

-- bank i and those behind it
length_from : (l : List Bank) (i : ℕ) → i < length l
    → length (banks_bytes (drop i l)) ≡ length (bank_bytes (get_or l i no_bank)) + length (banks_bytes (drop (suc i) l))
length_from l i h = rw (drop-cons l i no_bank h) (length-cons (get_or l i no_bank) (drop (suc i) l))

pub bytes-insert : (i : ℕ) (b : Bank) (l : List Bank)
    → length (banks_bytes (insert_at i b l)) ≡ length (banks_bytes l) + length (bank_bytes b)
unfolding insert_at
bytes-insert i b l =
    omega (arith, length_both (take i l) (b ∷ drop i l), length-cons b (drop i l), length-split l i)

pub bytes-remove : (i : ℕ) (l : List Bank) → i < length l
    → length (banks_bytes (remove_at i l)) + length (bank_bytes (get_or l i no_bank)) ≡ length (banks_bytes l)
unfolding remove_at
bytes-remove i l h =
    omega (arith, length_both (take i l) (drop (suc i) l), length_from l i h, length-split l i)

pub bytes-replace : (i : ℕ) (b : Bank) (l : List Bank) → i < length l
    → length (banks_bytes (replace_at i b l)) + length (bank_bytes (get_or l i no_bank)) ≡ length (banks_bytes l) + length (bank_bytes b)
unfolding replace_at
bytes-replace i b l h =
    omega (
      arith,
      length_both (take i l) (b ∷ drop (suc i) l),
      length-cons b (drop (suc i) l),
      length_from l i h,
      length-split l i,
    )

-- ---- one bank among valid ones

one-bank : (n p : ℕ) (a : List Bank) (b : Bank) (z : List Bank) → Every (BankValid n) a → Every (BankValid n) z
    → banks_ok n p (a ++ (b ∷ z)) ≡ bank_ok n (p + length (banks_bytes a)) b
unfolding ◌then◌ banks_ok
one-bank n p a b z ha hz =
    banks_ok-append n p a (b ∷ z)
    ∙ rw (
      banks_ok-passes n p a ha,
      banks_ok-passes n (p + length (banks_bytes a) + length (bank_bytes b)) z hz,
    )
    (then-of-valid (bank_ok n (p + length (banks_bytes a)) b))

pub insert-ok : (n p i : ℕ) (b : Bank) (l : List Bank) → Every (BankValid n) l
    → banks_ok n p (insert_at i b l) ≡ bank_ok n (p + length (banks_bytes (take i l))) b
unfolding insert_at
insert-ok n p i b l h = one-bank n p (take i l) b (drop i l) (every_take (BankValid n) i l h) (every_drop (BankValid n) i l h)

pub replace-ok : (n p i : ℕ) (b : Bank) (l : List Bank) → Every (BankValid n) l
    → banks_ok n p (replace_at i b l) ≡ bank_ok n (p + length (banks_bytes (take i l))) b
unfolding replace_at
replace-ok n p i b l h =
    one-bank n p (take i l) b (drop (suc i) l) (every_take (BankValid n) i l h) (every_drop (BankValid n) (suc i) l h)

-- ---- other banks

module _ (ed : Edition) (c : Codeplug) (a : AcceptedCodeplug ed c) where
  banks-short : length (banks_bytes c.banks) ≤ 1_048_576
  banks-short = omega (arith, a.short, length-codeplug c a.shaped)

  module _ (l : List Bank) where
    shaped-banks : length l < 65536 → Every BankShaped l → length (banks_bytes l) < 2 ^ 32 → Shaped (with_banks l c)
    unfolding with_banks
    shaped-banks fits banks room =
        let h = a.shaped in
        record {
          preamble = h.preamble;
          preamble_bytes = h.preamble_bytes;
          contacts_fit = h.contacts_fit;
          contacts = h.contacts;
          contacts_bytes = h.contacts_bytes;
          channels_fit = h.channels_fit;
          channels = h.channels;
          channels_bytes = h.channels_bytes;
          banks_fit = fits;
          banks = banks;
          offsets_fit = room;
        }

    module _ (h : Shaped (with_banks l c)) where
      banks-length : length (codeplug_bytes (with_banks l c)) ≡ table_start c + length l * 4 + length (banks_bytes l)
      unfolding with_banks
      banks-length = length-codeplug (with_banks l c) h

      -- after the length only the banks can refuse
      banks-result : file_rule ed (codeplug_bytes (with_banks l c))
          ≡ unless (leb (length (codeplug_bytes (with_banks l c))) 1_048_576) reason.TooLong 0
          then banks_ok (length c.channels) (table_start c + length l * 4) l
      unfolding with_banks ◌then◌
      banks-result =
          file-validated (with_banks l c) h ed
          ∙ rw (a.preamble, contacts-pass ed 88 c.contacts a.contacts, channels-pass c.contacts _ c.channels a.channels)

      -- no longer than before
      banks-result-short : length (codeplug_bytes (with_banks l c)) ≤ length (codeplug_bytes c)
          → file_rule ed (codeplug_bytes (with_banks l c)) ≡ banks_ok (length c.channels) (table_start c + length l * 4) l
      unfolding ◌then◌
      banks-result-short s =
          banks-result
          ∙ rw (unless-passes (leb (length (codeplug_bytes (with_banks l c))) 1_048_576) reason.TooLong 0
          (le-leb (length (codeplug_bytes (with_banks l c))) 1_048_576 (omega (arith, a.short))))

  -- ---- bank i removed

  module _ (i : ℕ) (g : i < length c.banks) where
    pub shaped-remove-bank : Shaped (with_banks (remove_at i c.banks) c)
    shaped-remove-bank =
        let l = c.banks in
        let h = a.shaped in
        shaped-banks (remove_at i l) (omega (arith, length-remove i l g, h.banks_fit)) (every-remove BankShaped i l h.banks)
        (omega (arith, bytes-remove i l g, h.offsets_fit))

    pub remove-bank-validated : file_rule ed (codeplug_bytes (with_banks (remove_at i c.banks) c)) ≡ Valid
    remove-bank-validated =
        let l = c.banks in
        let n = length c.channels in
        let h = shaped-remove-bank in
        let short : length (codeplug_bytes (with_banks (remove_at i l) c)) ≤ length (codeplug_bytes c) =
        omega (arith, banks-length (remove_at i l) h, length-codeplug c a.shaped, length-remove i l g, bytes-remove i l g)
        in
        banks-result-short (remove_at i l) h short
        ∙ banks_ok-passes n (table_start c + length (remove_at i l) * 4) (remove_at i l) (every-remove (BankValid n) i l a.banks)

  -- ---- b in place of bank i

  module _ (i : ℕ) (b : Bank) (g : i < length c.banks) (s : BankShaped b) where
    pub shaped-replace-bank : Shaped (with_banks (replace_at i b c.banks) c)
    shaped-replace-bank =
        let l = c.banks in
        let h = a.shaped in
        shaped-banks (replace_at i b l) (omega (arith, length-replace i b l g, h.banks_fit))
        (every-replace BankShaped i b l s h.banks)
        (omega (arith, bytes-replace i b l g, banks-short, length-bank_bytes b s.wide, s.fits))

    pub length-replace-bank : length (codeplug_bytes (with_banks (replace_at i b c.banks) c)) + length (bank_bytes (get_or c.banks i no_bank))
        ≡ length (codeplug_bytes c) + length (bank_bytes b)
    length-replace-bank =
        let l = c.banks in
        omega (
          arith,
          banks-length (replace_at i b l) shaped-replace-bank,
          length-codeplug c a.shaped,
          length-replace i b l g,
          bytes-replace i b l g,
        )

    replaced-validated : banks_ok (length c.channels) (table_start c + length (replace_at i b c.banks) * 4) (replace_at i b c.banks)
        ≡ bank_ok (length c.channels) (bank_place (codeplug_bytes c) i) b
    replaced-validated =
        let l = c.banks in
        let n = length c.channels in
        let e : table_start c + length (replace_at i b l) * 4 + length (banks_bytes (take i l)) ≡ bank_place (codeplug_bytes c) i =
        omega (arith, length-replace i b l g, bank-place c a.shaped i (omega arith))
        in
        replace-ok n (table_start c + length (replace_at i b l) * 4) i b l a.banks ∙ ap (λ (p : ℕ). bank_ok n p b) e

    pub replace-bank-validated : file_rule ed (codeplug_bytes (with_banks (replace_at i b c.banks) c))
        ≡ unless (leb (length (codeplug_bytes (with_banks (replace_at i b c.banks) c))) 1_048_576) reason.TooLong 0
        then bank_ok (length c.channels) (bank_place (codeplug_bytes c) i) b
    replace-bank-validated = banks-result (replace_at i b c.banks) shaped-replace-bank ∙ rw replaced-validated

    pub replace-bank-short : length (bank_bytes b) ≤ length (bank_bytes (get_or c.banks i no_bank))
        → file_rule ed (codeplug_bytes (with_banks (replace_at i b c.banks) c)) ≡ bank_ok (length c.channels) (bank_place (codeplug_bytes c) i) b
    replace-bank-short z =
        banks-result-short (replace_at i b c.banks) shaped-replace-bank (omega (arith, length-replace-bank)) ∙ replaced-validated

  -- ---- b before bank i

  module _ (i : ℕ) (b : Bank) (g : i ≤ length c.banks) (n : length c.banks < 65535) (s : BankShaped b) where
    pub shaped-insert-bank : Shaped (with_banks (insert_at i b c.banks) c)
    shaped-insert-bank =
        let l = c.banks in
        let h = a.shaped in
        shaped-banks (insert_at i b l) (omega (arith, length-insert i b l g)) (every-insert BankShaped i b l s h.banks)
        (omega (arith, bytes-insert i b l, banks-short, length-bank_bytes b s.wide, s.fits))

    length-insert-bank : length (codeplug_bytes (with_banks (insert_at i b c.banks) c)) ≡ length (codeplug_bytes c) + (4 + length (bank_bytes b))
    length-insert-bank =
        let l = c.banks in
        omega (
          arith,
          banks-length (insert_at i b l) shaped-insert-bank,
          length-codeplug c a.shaped,
          length-insert i b l g,
          bytes-insert i b l,
        )

    pub insert-bank-validated : file_rule ed (codeplug_bytes (with_banks (insert_at i b c.banks) c))
        ≡ unless (leb (length (codeplug_bytes c) + (4 + length (bank_bytes b))) 1_048_576) reason.TooLong 0
        then bank_ok (length c.channels) (bank_place (codeplug_bytes c) i + 4) b
    insert-bank-validated =
        let l = c.banks in
        let m = length c.channels in
        let e : table_start c + length (insert_at i b l) * 4 + length (banks_bytes (take i l)) ≡ bank_place (codeplug_bytes c) i + 4 =
        omega (arith, length-insert i b l g, bank-place c a.shaped i g)
        in
        banks-result (insert_at i b l) shaped-insert-bank
        ∙ rw (length-insert-bank, insert-ok m (table_start c + length (insert_at i b l) * 4) i b l a.banks, e)
