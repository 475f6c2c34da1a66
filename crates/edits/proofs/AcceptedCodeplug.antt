-- The file of a shaped codeplug, read in terms of its records, and what an accepted file gives of each of them. A record that is valid
-- at one place is valid at any.
use Prim.Native.Nat.{ℕ, zero, suc, ◌+◌, ◌*◌, ◌≤◌, ◌<◌}
use mathlib.Core.Path.{◌≡◌, refl, ap, sym, ◌∙◌}
use mathlib.Core.Logic.{inl, inr}
use mathlib.Core.Bool.{Bool, true, false, ◌&&◌}
use mathlib.Core.List.{List, [], ◌∷◌}
use native.Mathlib.Omega.{arith}
use lib.ListN.{length, get_or}
use lib.Dec.{leb, ltb, eqb}
use borrow.Author.Tests.{ltb-true, leb-true}
use Rattle.fields.specs.Bytes.{part}
use Rattle.text.specs.Text.{text_ok}
use Rattle.fields.specs.Rule.{◌then◌, unless, Validity, Valid}
use Rattle.fields.proofs.Laws.{get_d_part, part-inside, then-valid, both-valid, unless-valid, AllBytes}
use Rattle.m17.specs.declared.Edition.{Edition}
use Rattle.contact.specs.Contact.{contact_rule}
use Rattle.contact.proofs.Laws.{ValidInfo, contact-valid, dmr-passes, m17-passes}
use Rattle.channel.specs.Rule.{channel_rule, named_contact}
use Rattle.channel.proofs.Laws.{ValidChannel, by_mode, valid-named, valid-channel, valid-length, channel-valid-by, fm-names-none}
use Rattle.layout.specs.Places.{contact_count, channel_count, contact_place, channel_place, offset_place}
use Rattle.layout.specs.Header.{identity_rule}
use Rattle.file_rule.specs.File.{names_contact, index_ok, contacts_rule, channels_rule, file_rule}
use Rattle.file_rule.proofs.Laws.{file-valid, file-header, contact-there, contact-whole, channel-there, channel-whole}
use Rattle.model.specs.Codeplug.{Codeplug, codeplug_bytes, codeplug_of}
use Rattle.model.proofs.Blocks.{Every}
use Rattle.model.specs.HasLayout.{HasLayout}
use Rattle.model.proofs.FileOf.{file-of-codeplug, table-inside, channels-start, offsets-start}
use Rattle.model.proofs.Shape.{Shaped, channels_start, banks_start, contact-count, contact-part, shaped_of}
use Rattle.model.proofs.Validated.{each_of, each_of-same, banks_ok, BankValid, banks_ok-valid, contacts-validated, channels-validated, offsets-valid, banks-validated, header-validated}
use Rattle.std.specs.Prelude.{Some, None, Option}
use Rattle.format.specs.declared.refusals.Reason.TheVariants as reason

-- ---- the contact that a channel names, in the list of contacts

unfoldable pub names_in : List (List ℕ) → ℕ → Option ℕ → Bool
names_in l mode None = true
names_in l mode (Some i) = ltb i (length l) && eqb (get_or (get_or l i []) 32 0) mode

unfoldable pub channel_in : List (List ℕ) → List ℕ → ℕ → Validity
channel_in l s p = channel_rule s p (names_in l (get_or s 0 0) (named_contact s))

module _ (c : Codeplug) (h : Shaped c) where
  mode-at : (i : ℕ) → i < length c.contacts
      → get_or (codeplug_bytes c) (contact_place i + 32) 0 ≡ get_or (get_or c.contacts i []) 32 0
  mode-at i g =
      sym (get_d_part (codeplug_bytes c) (contact_place i) 39 32 (omega arith)) ∙ ap (λ (s : List ℕ). get_or s 32 0) (contact-part c h i g)

  names-are : (mode : ℕ) (x : Option ℕ) → names_contact (codeplug_bytes c) mode x ≡ names_in c.contacts mode x
  unfolding names_contact names_in
  names-are mode None = refl
  names-are mode (Some i) = rw (contact-count c h) (by (ltb i (length c.contacts)) refl)
    where
      by : (t : Bool) → ltb i (length c.contacts) ≡ t
          → (t && eqb (get_or (codeplug_bytes c) (contact_place i + 32) 0) mode) ≡ (t && eqb (get_or (get_or c.contacts i []) 32 0) mode)
      by true e = rw (mode-at i (ltb-true i (length c.contacts) e))
      by false e = refl

  pub index_ok_lem : (s : List ℕ) → index_ok (codeplug_bytes c) s ≡ names_in c.contacts (get_or s 0 0) (named_contact s)
  unfolding index_ok
  index_ok_lem s = names-are (get_or s 0 0) (named_contact s)

  contacts-are : (ed : Edition) → contacts_rule ed (codeplug_bytes c) ≡ each_of (contact_rule ed) 39 88 c.contacts
  unfolding contacts_rule
  contacts-are ed = contacts-validated c h (contact_rule ed)

  channels-are : channels_rule (codeplug_bytes c) ≡ each_of (channel_in c.contacts) 90 (channels_start c) c.channels
  unfolding channels_rule channel_in
  channels-are =
      channels-validated c h (λ s p. channel_rule s p (index_ok (codeplug_bytes c) s))
      ∙ each_of-same (λ s p. channel_rule s p (index_ok (codeplug_bytes c) s)) (channel_in c.contacts) 90 (channels_start c) c.channels
      (λ i g. rw (index_ok_lem (get_or c.channels i [])))

  -- reading the file of a shaped codeplug
  pub file-validated : (ed : Edition) → file_rule ed (codeplug_bytes c)
      ≡ unless (leb (length (codeplug_bytes c)) 1_048_576) reason.TooLong 0
      then identity_rule c.preamble
      then each_of (contact_rule ed) 39 88 c.contacts
      then each_of (channel_in c.contacts) 90 (channels_start c) c.channels
      then banks_ok (length c.channels) (banks_start c) c.banks
  unfolding file_rule ◌then◌
  file-validated ed = rw (header-validated c h, contacts-are ed, channels-are, offsets-valid c h, banks-validated c h)

-- ---- a record that is valid, wherever it stands

pub record ContactValid (ed : Edition) (s : List ℕ) : Type 0 where
  pub text : text_ok (part s 0 32) ≡ true
  pub info : ValidInfo ed s

pub contact-is-valid : (ed : Edition) (s : List ℕ) (p : ℕ) → contact_rule ed s p ≡ Valid → ContactValid ed s
contact-is-valid ed s p h = let a = contact-valid ed s p h in record { text = a.0; info = a.1 }

pub contact-passes : (ed : Edition) (s : List ℕ) (p : ℕ) → ContactValid ed s → contact_rule ed s p ≡ Valid
contact-passes ed s p g = by g.info
  where
    by : ValidInfo ed s → contact_rule ed s p ≡ Valid
    by (inl d) = dmr-passes s p g.text ed d
    by (inr m) = m17-passes s p g.text ed m

-- its contact index names a contact of its own mode in the list
pub record ChannelValid (l : List (List ℕ)) (s : List ℕ) : Type 0 where
  pub valid : ValidChannel s
  pub whole : 90 ≤ length s
  pub names : names_in l (get_or s 0 0) (named_contact s) ≡ true

pub fm-names : (l : List (List ℕ)) (s : List ℕ) → get_or s 0 0 ≡ 0 → names_in l (get_or s 0 0) (named_contact s) ≡ true
unfolding names_in
fm-names l s e = rw (fm-names-none s e)

pub channel-is-valid : (l : List (List ℕ)) (s : List ℕ) (p : ℕ) → channel_in l s p ≡ Valid → ChannelValid l s
unfolding channel_in
channel-is-valid l s p h =
    let named : Bool = names_in l (get_or s 0 0) (named_contact s) in
    record {
      valid = valid-channel s p named h;
      whole = valid-length s p named h;
      names =
          by_mode (names_in l (get_or s 0 0) (named_contact s) ≡ true) (get_or s 0 0)
          (λ e. fm-names l s e)
          (λ e. valid-named s p named h (omega arith))
          (λ e. valid-named s p named h (omega arith));
    }

pub channel-passes : (l : List (List ℕ)) (s : List ℕ) (p : ℕ) → ChannelValid l s → channel_in l s p ≡ Valid
unfolding channel_in
channel-passes l s p g = channel-valid-by s p (names_in l (get_or s 0 0) (named_contact s)) g.valid g.whole (λ _. g.names)

-- ---- a run of records that are valid, wherever they stand

module _ (rule : List ℕ → ℕ → Validity) (P : List ℕ → Type 0) where
  pub every-of-run : ((s : List ℕ) (p : ℕ) → rule s p ≡ Valid → P s) → (w p : ℕ) (l : List (List ℕ)) → each_of rule w p l ≡ Valid → Every P l
  unfolding each_of
  every-of-run f w p [] h = tt
  every-of-run f w p (s ∷ l) h =
      let a = then-valid (rule s p) (each_of rule w (p + w) l) h in
      (f s p a.0, every-of-run f w (p + w) l a.1)

  pub run-of-every : ((s : List ℕ) (p : ℕ) → P s → rule s p ≡ Valid) → (w p : ℕ) (l : List (List ℕ)) → Every P l → each_of rule w p l ≡ Valid
  unfolding each_of
  run-of-every f w p [] h = refl
  run-of-every f w p (s ∷ l) h =
      both-valid (rule s p) (each_of rule w (p + w) l) (f s p h.0) (run-of-every f w (p + w) l h.1)

pub contacts-pass : (ed : Edition) (p : ℕ) (l : List (List ℕ)) → Every (ContactValid ed) l → each_of (contact_rule ed) 39 p l ≡ Valid
contacts-pass ed p l h = run-of-every (contact_rule ed) (ContactValid ed) (contact-passes ed) 39 p l h

pub channels-pass : (t : List (List ℕ)) (p : ℕ) (l : List (List ℕ)) → Every (ChannelValid t) l → each_of (channel_in t) 90 p l ≡ Valid
channels-pass t p l h = run-of-every (channel_in t) (ChannelValid t) (channel-passes t) 90 p l h

-- ---- a codeplug whose file is accepted

pub record AcceptedCodeplug (ed : Edition) (c : Codeplug) : Type 0 where
  pub shaped : Shaped c
  pub short : length (codeplug_bytes c) ≤ 1_048_576
  pub preamble : identity_rule c.preamble ≡ Valid
  pub contacts : Every (ContactValid ed) c.contacts
  pub channels : Every (ChannelValid c.contacts) c.channels
  pub banks : Every (BankValid (length c.channels)) c.banks

pub accepted-by : (ed : Edition) (c : Codeplug) → Shaped c → file_rule ed (codeplug_bytes c) ≡ Valid → AcceptedCodeplug ed c
accepted-by ed c h g =
    let a = then-valid _ _ (sym (file-validated c h ed) ∙ g) in
    let b = then-valid _ _ a.1 in
    let d = then-valid _ _ b.1 in
    let e = then-valid _ _ d.1 in
    record {
      shaped = h;
      short = leb-true (length (codeplug_bytes c)) 1_048_576 (unless-valid (leb (length (codeplug_bytes c)) 1_048_576) reason.TooLong 0 a.0);
      preamble = b.0;
      contacts = every-of-run (contact_rule ed) (ContactValid ed) (contact-is-valid ed) 39 88 c.contacts d.0;
      channels =
          every-of-run (channel_in c.contacts) (ChannelValid c.contacts) (channel-is-valid c.contacts) 90 (channels_start c)
          c.channels e.0;
      banks = banks_ok-valid (length c.channels) (banks_start c) c.banks e.1;
    }

-- ---- an accepted file is laid out as one

contact-walk : (n : ℕ) → contact_place n ≡ 88 + n * 39
unfolding contact_place
contact-walk n = refl

channel-walk : (f : List ℕ) (n : ℕ) → channel_place f n ≡ channel_place f 0 + n * 90
unfolding channel_place
channel-walk f n = omega arith

module _ (ed : Edition) (f : List ℕ) (h : file_rule ed f ≡ Valid) where
  contacts-inside : channel_place f 0 ≤ length f
  contacts-inside = by (contact_count f) refl
    where
      by : (n : ℕ) → contact_count f ≡ n → channel_place f 0 ≤ length f
      by zero e = omega (arith, channels-start f, file-header ed f h)
      by (suc n) e =
          let w = contact-whole ed f (contact_place n) (contact-there ed f n (file-valid ed f h).contacts (omega arith)) in
          let i = part-inside f (contact_place n) 39 (omega arith) w in
          omega (arith, channels-start f, contact-walk n)

  channels-inside : offset_place f 0 ≤ length f
  channels-inside = by (channel_count f) refl
    where
      by : (n : ℕ) → channel_count f ≡ n → offset_place f 0 ≤ length f
      by zero e = omega (arith, offsets-start f, contacts-inside)
      by (suc n) e =
          let w = channel-whole f (channel_place f n) (channel-there f n (file-valid ed f h).channels (omega arith)) in
          let i = part-inside f (channel_place f n) 90 (omega arith) w in
          omega (arith, offsets-start f, channel-walk f n)

  pub has-layout : AllBytes f → HasLayout f
  has-layout b =
      let g = file-valid ed f h in
      record {
        bytes = b;
        header = file-header ed f h;
        table = table-inside f channels-inside g.offsets;
        banks = g.banks;
        short = omega (arith, g.short);
      }

  pub codeplug-accepted : AllBytes f → AcceptedCodeplug ed (codeplug_of f)
  codeplug-accepted b = accepted-by ed (codeplug_of f) (shaped_of f (has-layout b)) (rw (file-of-codeplug f (has-layout b)) h)
