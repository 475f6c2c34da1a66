-- Reading the file of a shaped codeplug, in terms of its records: each run of records is a run over their list, every offset is right,
-- and no byte follows the last bank.
use Prim.Native.Nat.{ℕ, zero, suc, ◌+◌, ◌*◌, ◌^◌, ◌≤◌, ◌<◌}
use mathlib.Core.Path.{◌≡◌, refl, ap, sym, ◌∙◌}
use mathlib.Core.Bool.{Bool, true}
use mathlib.Core.List.{List, [], ◌∷◌, ◌++◌, append_assoc}
use native.Mathlib.Omega.{arith}
use native.Mathlib.Nat.{add-zero}
use lib.ListN.{length, drop, get_or, length-append, length-drop}
use lib.Dec.{leb, ltb, eqb}
use borrow.Author.Tests.{eq-eqb, le-leb, lt-ltb, ltb-true}
use Rattle.fields.specs.Bytes.{part, num, little_bytes}
use Rattle.text.specs.Text.{text_ok}
use Rattle.fields.specs.Rule.{◌then◌, unless, field_of, field, each, Validity, Valid}
use Rattle.fields.proofs.Laws.{length_part, part_left, length-little_bytes, then-valid, then-assoc, both-valid, then-of-valid, unless-valid, unless-passes}
use Rattle.fields.proofs.Laws.{field-inside, field-passes, each-passes}
use Rattle.layout.specs.Places.{contact_count, channel_count, bank_count, contact_place, channel_place, offset_place, banks_place}
use Rattle.layout.specs.Header.{identity_rule, header_rule}
use Rattle.layout.specs.Banks.{offset_at, offsets_rule, entry_at, entry_count, bank_head, bank_at, banks_from, banks_rule}
use Rattle.model.specs.Codeplug.{Bank, Codeplug, joined, pairs, bank_bytes, offsets_from, codeplug_bytes}
use Rattle.model.proofs.Blocks.{Every, Wide, Small, banks_bytes, stands-part, stands-next, stands-num, length-bank_bytes}
use Rattle.model.specs.HasLayout.{HasLayout}
use Rattle.model.proofs.FileOf.{contacts-start}
use Rattle.model.proofs.Shape.{BankShaped, Shaped, from_entries, bank-name, entry-count, bank-ends}
use Rattle.model.proofs.Shape.{channels_start, table_start, banks_start, from-contacts, from-channels, from-table, from-banks, length-codeplug, bytes-codeplug}
use Rattle.model.proofs.Shape.{contact-count, channel-count, bank-count, channel-place, offset-place, banks-place}
use Rattle.format.specs.declared.refusals.Reason.TheVariants as reason
use Rattle.format.specs.declared.refusals.Reason.{Reason}

-- ---- runs over a list of records

-- each record by a rule of its bytes and its place, the first one at p
unfoldable pub each_of : (List ℕ → ℕ → Validity) → ℕ → ℕ → List (List ℕ) → Validity
each_of rule w p [] = Valid
each_of rule w p (s ∷ l) = rule s p then each_of rule w (p + w) l

pub each_of_lem : (rule : List ℕ → ℕ → Validity) (f : List ℕ) (w : ℕ) (l : List (List ℕ)) (p : ℕ) (t : List ℕ)
    → drop p f ≡ joined l ++ t → Wide w l → each (λ q. rule (part f q w) q) (length l) w p ≡ each_of rule w p l
unfolding each each_of joined
each_of_lem rule f w [] p t e h = refl
each_of_lem rule f w (s ∷ l) p t e h =
    let d : drop p f ≡ s ++ (joined l ++ t) = e ∙ append_assoc s (joined l) t in
    rw (
      stands-part f p s (joined l ++ t) w d h.0,
      each_of_lem rule f w l (p + w) t (stands-next f p s (joined l ++ t) w d h.0) h.1,
    )

pub each_of-append : (rule : List ℕ → ℕ → Validity) (w p : ℕ) (a b : List (List ℕ))
    → each_of rule w p (a ++ b) ≡ each_of rule w p a then each_of rule w (p + length a * w) b
unfolding each_of ◌then◌
each_of-append rule w p [] b =
    let e : p + 0 * w ≡ p = omega arith in
    rw e
each_of-append rule w p (s ∷ a) b =
    let e : p + suc (length a) * w ≡ p + w + length a * w = omega arith in
    rw (e, each_of-append rule w (p + w) a b)
    (sym (then-assoc (rule s p) (each_of rule w (p + w) a) (each_of rule w (p + w + length a * w) b)))

pub each_of-valid : (rule : List ℕ → ℕ → Validity) (w p : ℕ) (l : List (List ℕ)) → each_of rule w p l ≡ Valid → (i : ℕ) → i < length l
    → rule (get_or l i []) (p + i * w) ≡ Valid
unfolding each_of
each_of-valid rule w p [] h i g = absurd (omega arith)
each_of-valid rule w p (s ∷ l) h zero g =
    let e : p + 0 * w ≡ p = omega arith in
    rw e (then-valid (rule s p) (each_of rule w (p + w) l) h).0
each_of-valid rule w p (s ∷ l) h (suc i) g =
    let e : p + suc i * w ≡ p + w + i * w = omega arith in
    rw e (each_of-valid rule w (p + w) l (then-valid (rule s p) (each_of rule w (p + w) l) h).1 i (omega arith))

pub each_of-passes : (rule : List ℕ → ℕ → Validity) (w p : ℕ) (l : List (List ℕ))
    → ((i : ℕ) → i < length l → rule (get_or l i []) (p + i * w) ≡ Valid) → each_of rule w p l ≡ Valid
unfolding each_of
each_of-passes rule w p [] h = refl
each_of-passes rule w p (s ∷ l) h =
    let e : p ≡ p + 0 * w = omega arith in
    both-valid (rule s p) (each_of rule w (p + w) l) (ap (λ (q : ℕ). rule s q) e ∙ h 0 (omega arith))
    (each_of-passes rule w (p + w) l
    (λ i g.
    let d : p + w + i * w ≡ p + suc i * w = omega arith in
    ap (λ (q : ℕ). rule (get_or l i []) q) d ∙ h (suc i) (omega arith)))

-- rules that agree at each record
pub each_of-same : (a b : List ℕ → ℕ → Validity) (w p : ℕ) (l : List (List ℕ))
    → ((i : ℕ) → i < length l → a (get_or l i []) (p + i * w) ≡ b (get_or l i []) (p + i * w)) → each_of a w p l ≡ each_of b w p l
unfolding each_of
each_of-same a b w p [] h = refl
each_of-same a b w p (s ∷ l) h =
    let e : p ≡ p + 0 * w = omega arith in
    let first : a s p ≡ b s p = ap (λ (q : ℕ). a s q) e ∙ h 0 (omega arith) ∙ ap (λ (q : ℕ). b s q) (sym e) in
    let rest : each_of a w (p + w) l ≡ each_of b w (p + w) l =
    each_of-same a b w (p + w) l
    (λ i g.
    let d : p + w + i * w ≡ p + suc i * w = omega arith in
    ap (λ (q : ℕ). a (get_or l i []) q) d ∙ h (suc i) (omega arith) ∙ ap (λ (q : ℕ). b (get_or l i []) q) (sym d))
    in
    rw (first, rest)

-- ---- a bank's entries

-- each entry is below the count of channels, n
unfoldable pub entries_of : ℕ → ℕ → List ℕ → Validity
entries_of n p [] = Valid
entries_of n p (x ∷ l) = unless (ltb x n) reason.BankEntry p then entries_of n (p + 2) l

pub entries_of-append : (n p : ℕ) (a b : List ℕ) → entries_of n p (a ++ b) ≡ entries_of n p a then entries_of n (p + length a * 2) b
unfolding entries_of ◌then◌
entries_of-append n p [] b = rw add-zero
entries_of-append n p (x ∷ a) b =
    let e : p + suc (length a) * 2 ≡ p + 2 + length a * 2 = omega arith in
    rw (e, entries_of-append n (p + 2) a b)
    (sym (then-assoc (unless (ltb x n) reason.BankEntry p) (entries_of n (p + 2) a) (entries_of n (p + 2 + length a * 2) b)))

pub entries_of-valid : (n p : ℕ) (l : List ℕ) → entries_of n p l ≡ Valid → Every (λ x. x < n) l
unfolding entries_of
entries_of-valid n p [] h = tt
entries_of-valid n p (x ∷ l) h =
    let a = then-valid (unless (ltb x n) reason.BankEntry p) (entries_of n (p + 2) l) h in
    (ltb-true x n (unless-valid (ltb x n) reason.BankEntry p a.0), entries_of-valid n (p + 2) l a.1)

pub entries_of-passes : (n p : ℕ) (l : List ℕ) → Every (λ x. x < n) l → entries_of n p l ≡ Valid
unfolding entries_of
entries_of-passes n p [] h = refl
entries_of-passes n p (x ∷ l) h =
    both-valid (unless (ltb x n) reason.BankEntry p) (entries_of n (p + 2) l) (unless-passes (ltb x n) reason.BankEntry p (lt-ltb x n h.0))
    (entries_of-passes n (p + 2) l h.1)

-- what stands at p lies inside
inside : (f : List ℕ) (p : ℕ) (a s : List ℕ) → 0 < length a → drop p f ≡ a ++ s → p + length a ≤ length f
inside f p a s h e = omega (arith, simp (length-drop, length-append) at (ap length e))

entry-is : (f : List ℕ) (p x : ℕ) (s : List ℕ) → drop p f ≡ little_bytes 2 x ++ s → x < 65536
    → entry_at f p ≡ unless (ltb x (channel_count f)) reason.BankEntry p
unfolding entry_at
entry-is f p x s e h =
    let a : p + 2 ≤ length f =
    rw (length-little_bytes 2 x) at (inside f p (little_bytes 2 x) s (rw (length-little_bytes 2 x) (omega arith)) e)
    in
    rw (stands-num f p 2 x s e h)
    (field-inside (length (part f p 2)) p 0 2 reason.BankEntry (ltb x (channel_count f)) (rw (length_part f p 2 a) (omega arith)) ∙ rw add-zero)

entries-are : (f : List ℕ) (l : List ℕ) (p : ℕ) (s : List ℕ) → drop p f ≡ pairs l ++ s → Every Small l
    → each (entry_at f) (length l) 2 p ≡ entries_of (channel_count f) p l
unfolding each entries_of pairs
entries-are f [] p s e h = refl
entries-are f (x ∷ l) p s e h =
    let d : drop p f ≡ little_bytes 2 x ++ (pairs l ++ s) = e ∙ append_assoc (little_bytes 2 x) (pairs l) s in
    rw (
      entry-is f p x (pairs l ++ s) d h.0,
      entries-are f l (p + 2) s (stands-next f p (little_bytes 2 x) (pairs l ++ s) 2 d (length-little_bytes 2 x)) h.1,
    )

-- ---- banks

-- the bank at p: its name is a text, and its entries
unfoldable pub bank_ok : ℕ → ℕ → Bank → Validity
bank_ok n p b = unless (text_ok b.name) reason.Text p then entries_of n (p + 34) b.entries

unfoldable pub banks_ok : ℕ → ℕ → List Bank → Validity
banks_ok n p [] = Valid
banks_ok n p (b ∷ l) = bank_ok n p b then banks_ok n (p + length (bank_bytes b)) l

-- a bank that passes, wherever it stands
pub record BankValid (n : ℕ) (b : Bank) : Type 0 where
  pub text : text_ok b.name ≡ true
  pub below : Every (λ x. x < n) b.entries

pub bank_ok-valid : (n p : ℕ) (b : Bank) → bank_ok n p b ≡ Valid → BankValid n b
unfolding bank_ok
bank_ok-valid n p b h =
    let a = then-valid (unless (text_ok b.name) reason.Text p) (entries_of n (p + 34) b.entries) h in
    record {
      text = unless-valid (text_ok b.name) reason.Text p a.0;
      below = entries_of-valid n (p + 34) b.entries a.1;
    }

pub bank_ok-passes : (n p : ℕ) (b : Bank) → BankValid n b → bank_ok n p b ≡ Valid
unfolding bank_ok
bank_ok-passes n p b h =
    both-valid (unless (text_ok b.name) reason.Text p) (entries_of n (p + 34) b.entries) (unless-passes (text_ok b.name) reason.Text p h.text)
    (entries_of-passes n (p + 34) b.entries h.below)

pub banks_ok-append : (n p : ℕ) (a b : List Bank) → banks_ok n p (a ++ b) ≡ banks_ok n p a then banks_ok n (p + length (banks_bytes a)) b
unfolding banks_ok joined ◌then◌
banks_ok-append n p [] b = rw add-zero
banks_ok-append n p (x ∷ a) b =
    let q = p + length (bank_bytes x) in
    let e : p + length (bank_bytes x ++ banks_bytes a) ≡ q + length (banks_bytes a) =
    omega (arith, length-append (bank_bytes x) (banks_bytes a))
    in
    rw (e, banks_ok-append n q a b) (sym (then-assoc (bank_ok n p x) (banks_ok n q a) (banks_ok n (q + length (banks_bytes a)) b)))

pub banks_ok-valid : (n p : ℕ) (l : List Bank) → banks_ok n p l ≡ Valid → Every (BankValid n) l
unfolding banks_ok
banks_ok-valid n p [] h = tt
banks_ok-valid n p (b ∷ l) h =
    let a = then-valid (bank_ok n p b) (banks_ok n (p + length (bank_bytes b)) l) h in
    (bank_ok-valid n p b a.0, banks_ok-valid n (p + length (bank_bytes b)) l a.1)

pub banks_ok-passes : (n p : ℕ) (l : List Bank) → Every (BankValid n) l → banks_ok n p l ≡ Valid
unfolding banks_ok
banks_ok-passes n p [] h = refl
banks_ok-passes n p (b ∷ l) h =
    both-valid (bank_ok n p b) (banks_ok n (p + length (bank_bytes b)) l) (bank_ok-passes n p b h.0)
    (banks_ok-passes n (p + length (bank_bytes b)) l h.1)

-- the bank at p, with its offset at t
bank-is : (f : List ℕ) (t p at : ℕ) (b : Bank) (s r : List ℕ) → drop p f ≡ bank_bytes b ++ s → BankShaped b
    → drop t f ≡ little_bytes 4 at ++ r → at < 256 ^ 4 → banks_place f + at ≡ p → bank_at f t p ≡ bank_ok (channel_count f) p b
unfolding bank_at bank_head bank_ok ◌then◌
bank-is f t p at b s r e h o g q =
    let l : length (bank_bytes b) ≡ 34 + length b.entries * 2 = length-bank_bytes b h.wide in
    let a : p + length (bank_bytes b) ≤ length f = inside f p (bank_bytes b) s (omega arith) e in
    let w : length (part f p 34) ≡ 34 = length_part f p 34 (omega arith) in
    let offset : unless (eqb (banks_place f + num f t 4) p) reason.BankOffset t ≡ Valid =
    unless-passes (eqb (banks_place f + num f t 4) p) reason.BankOffset t
    (eq-eqb (banks_place f + num f t 4) p (rw (stands-num f t 4 at r o g) q))
    in
    let name : field (part f p 34) p 0 32 reason.Text (text_ok (part f p 32)) ≡ unless (text_ok b.name) reason.Text p =
    rw (bank-name f p b s e h)
    (field-inside (length (part f p 34)) p 0 32 reason.Text (text_ok b.name) (omega arith) ∙ rw add-zero)
    in
    let count : field (part f p 34) p 32 2 reason.Value true ≡ Valid = field-passes (length (part f p 34)) p 32 2 reason.Value true (omega arith) refl in
    let entries : each (entry_at f) (entry_count f p) 2 (p + 34) ≡ entries_of (channel_count f) (p + 34) b.entries =
    rw (entry-count f p b s e h) (entries-are f b.entries (p + 34) s (from_entries f p b s e h) h.small)
    in
    rw (offset, name, count, entries, then-of-valid (unless (text_ok b.name) reason.Text p))

-- the banks from p on to the end, with their offsets from t on; `at` is the first one's
banks-are : (f : List ℕ) (l : List Bank) (t p at : ℕ) (r : List ℕ) → drop p f ≡ banks_bytes l → Every BankShaped l
    → drop t f ≡ offsets_from at l ++ r → at + length (banks_bytes l) < 256 ^ 4 → banks_place f + at ≡ p
    → p + length (banks_bytes l) ≡ length f → banks_from f (length l) t p ≡ banks_ok (channel_count f) p l
unfolding banks_from banks_ok joined offsets_from
banks-are f [] t p at r e h o g q z = unless-passes (leb (length f) p) reason.Trailing p (le-leb (length f) p (omega arith))
banks-are f (b ∷ l) t p at r e h o g q z =
    let n = length (bank_bytes b) in
    let m = length-append (bank_bytes b) (banks_bytes l) in
    let k : drop t f ≡ little_bytes 4 at ++ (offsets_from (at + n) l ++ r) = o ∙ append_assoc (little_bytes 4 at) (offsets_from (at + n) l) r in
    rw (
      bank-is f t p at b (banks_bytes l) (offsets_from (at + n) l ++ r) e h.0 k (omega arith) q,
      bank-ends f p b (banks_bytes l) e h.0,
      banks-are f l (t + 4) (p + n) (at + n) r (stands-next f p (bank_bytes b) (banks_bytes l) n e refl) h.1
          (stands-next f t (little_bytes 4 at) (offsets_from (at + n) l ++ r) 4 k (length-little_bytes 4 at)) (omega arith) (omega arith)
          (omega arith),
    )

-- ---- the header

field-more : (a s : List ℕ) (k n : ℕ) (number : Reason) (ok : Bool) → k + n ≤ length a
    → field_of (length (a ++ s)) 0 k n number ok ≡ field_of (length a) 0 k n number ok
field-more a s k n number ok h =
    field-inside (length (a ++ s)) 0 k n number ok (omega (arith, length-append a s))
    ∙ sym (field-inside (length a) 0 k n number ok h)

-- a preamble with bytes behind it
preamble-more : (a s : List ℕ) → 74 ≤ length a → identity_rule (a ++ s) ≡ identity_rule a
unfolding identity_rule
preamble-more a s h =
    rw (
      part_left a s 0 8 (omega arith),
      part_left a s 8 2 (omega arith),
      part_left a s 10 32 (omega arith),
      part_left a s 42 32 (omega arith),
      field-more a s 0 8 reason.Magic (eqb (num a 0 8) 0x43585452) (omega arith),
      field-more a s 8 2 reason.Version (eqb (num a 8 2) 1) (omega arith),
      field-more a s 10 32 reason.Text (text_ok (part a 10 32)) (omega arith),
      field-more a s 42 32 reason.Text (text_ok (part a 42 32)) (omega arith),
    )

header-preamble : (f : List ℕ) → 88 ≤ length f → header_rule f ≡ identity_rule f
unfolding header_rule ◌then◌
header-preamble f h =
    rw (
      field-passes (length f) 0 74 8 reason.Value true (omega arith) refl,
      field-passes (length f) 0 82 2 reason.Value true (omega arith) refl,
      field-passes (length f) 0 84 2 reason.Value true (omega arith) refl,
      field-passes (length f) 0 86 2 reason.Value true (omega arith) refl,
    )
    (then-of-valid (identity_rule f))

-- ---- the file of a shaped codeplug

module _ (c : Codeplug) (h : Shaped c) where
  pub contacts-each : (rule : List ℕ → ℕ → Validity)
      → each (λ p. rule (part (codeplug_bytes c) p 39) p) (length c.contacts) 39 (contact_place 0) ≡ each_of rule 39 88 c.contacts
  contacts-each rule = rw contacts-start (each_of_lem rule (codeplug_bytes c) 39 c.contacts 88 _ (from-contacts c h) h.contacts)

  pub channels-each : (rule : List ℕ → ℕ → Validity)
      → each (λ p. rule (part (codeplug_bytes c) p 90) p) (length c.channels) 90 (channel_place (codeplug_bytes c) 0)
      ≡ each_of rule 90 (channels_start c) c.channels
  channels-each rule =
      let e : channel_place (codeplug_bytes c) 0 ≡ channels_start c = omega (arith, channel-place c h 0) in
      rw e (each_of_lem rule (codeplug_bytes c) 90 c.channels (channels_start c) _ (from-channels c h) h.channels)

  -- the same by the counts of the file, whatever else the rule takes from it
  pub contacts-validated : (rule : List ℕ → ℕ → Validity)
      → each (λ p. rule (part (codeplug_bytes c) p 39) p) (contact_count (codeplug_bytes c)) 39 (contact_place 0) ≡ each_of rule 39 88 c.contacts
  contacts-validated rule =
      ap (λ (n : ℕ). each (λ p. rule (part (codeplug_bytes c) p 39) p) n 39 (contact_place 0)) (contact-count c h) ∙ contacts-each rule

  pub channels-validated : (rule : List ℕ → ℕ → Validity)
      → each (λ p. rule (part (codeplug_bytes c) p 90) p) (channel_count (codeplug_bytes c)) 90 (channel_place (codeplug_bytes c) 0)
      ≡ each_of rule 90 (channels_start c) c.channels
  channels-validated rule =
      ap (λ (n : ℕ). each (λ p. rule (part (codeplug_bytes c) p 90) p) n 90 (channel_place (codeplug_bytes c) 0)) (channel-count c h)
      ∙ channels-each rule

  offset-ok : (i : ℕ) → i < bank_count (codeplug_bytes c) → offset_at (codeplug_bytes c) (offset_place (codeplug_bytes c) 0 + i * 4) ≡ Valid
  offset-ok i g =
      let f = codeplug_bytes c in
      let p = offset_place f 0 + i * 4 in
      let a : p + 4 ≤ length f = omega (arith, offset-place c h 0, bank-count c h, length-codeplug c h) in
      field-passes (length (part f p 4)) p 0 4 reason.Value true (rw (length_part f p 4 a) (omega arith)) refl

  -- the table is inside
  pub offsets-valid : offsets_rule (codeplug_bytes c) ≡ Valid
  unfolding offsets_rule
  offsets-valid = each-passes (offset_at (codeplug_bytes c)) (bank_count (codeplug_bytes c)) 4 (offset_place (codeplug_bytes c) 0) offset-ok

  pub banks-validated : banks_rule (codeplug_bytes c) ≡ banks_ok (length c.channels) (banks_start c) c.banks
  unfolding banks_rule
  banks-validated =
      let e : offset_place (codeplug_bytes c) 0 ≡ table_start c = omega (arith, offset-place c h 0) in
      rw (bank-count c h, e, banks-place c h)
      (banks-are (codeplug_bytes c) c.banks (table_start c) (banks_start c) 0 (banks_bytes c.banks) (from-banks c h) h.banks
      (from-table c h) (omega (arith, h.offsets_fit)) (omega (arith, banks-place c h)) (omega (arith, length-codeplug c h))
      ∙ rw (channel-count c h))

  -- of the header only the preamble is validated
  pub header-validated : header_rule (codeplug_bytes c) ≡ identity_rule c.preamble
  unfolding codeplug_bytes
  header-validated =
      let f = codeplug_bytes c in
      let a : 88 ≤ length f = omega (arith, length-codeplug c h) in
      header-preamble f a ∙ preamble-more c.preamble _ (omega (arith, h.preamble))

  -- the file is one that the laws of accepted files speak of
  pub has-layout-of : Every (BankValid (length c.channels)) c.banks → length (codeplug_bytes c) < 2 ^ 32 → HasLayout (codeplug_bytes c)
  has-layout-of g z =
      record {
        bytes = bytes-codeplug c h;
        header = omega (arith, length-codeplug c h);
        table = omega (arith, banks-place c h, length-codeplug c h);
        banks = banks-validated ∙ banks_ok-passes (length c.channels) (banks_start c) c.banks g;
        short = z;
      }
