-- Edits 1, 2 and 3: contacts inserted, removed and replaced. A channel's index that moves names the same contact as before; after a
-- replacement a channel that names the new contact is refused exactly if its mode is another.
use Prim.Native.Nat.{ℕ, suc, ◌+◌, ◌*◌, ◌-◌, ◌≤◌, ◌<◌}
use mathlib.Core.Path.{◌≡◌, refl, sym, ◌∙◌}
use mathlib.Core.Bool.{Bool, true, false, ◌&&◌, ◌||◌, not}
use mathlib.Core.List.{List, [], ◌∷◌, map}
use native.Mathlib.Omega.{arith}
use lib.ListN.{length, get_or, length-map}
use lib.Dec.{leb, ltb, eqb}
use borrow.Author.Tests.{le-leb, eqb-true, eqb-false, eq-eqb, ne_eqb, lt-ltb}
use Rattle.fields.specs.Rule.{◌then◌, unless, each, Validity, Valid}
use Rattle.fields.proofs.Laws.{then-of-valid, unless-passes, AllBytes}
use Rattle.m17.specs.declared.Edition.{Edition}
use Rattle.contact.specs.Contact.{contact_rule}
use Rattle.channel.specs.Rule.{named_contact}
use Rattle.layout.specs.Places.{channel_count, contact_place, channel_place}
use Rattle.file_rule.specs.File.{file_rule}
use Rattle.model.specs.Codeplug.{Codeplug, codeplug_bytes}
use Rattle.model.specs.Edits.{insert_at, remove_at, replace_at, raised, lowered, move_contact, with_contacts, with_channels, move_contacts}
use Rattle.model.specs.EditRules.{is_index, some_names}
use Rattle.model.proofs.Blocks.{Every, Wide, every_map, every-each}
use Rattle.model.proofs.Shape.{Shaped, channels_start, length-codeplug}
use Rattle.model.proofs.Validated.{each_of, channels-validated, banks_ok-passes}
use Rattle.edits.specs.ResultValidity.{may_grow, index_place, keeps_mode}
use Rattle.edits.proofs.AcceptedCodeplug.{names_in, channel_in, file-validated, ContactValid, ChannelValid, fm-names, contacts-pass, channels-pass, AcceptedCodeplug}
use Rattle.edits.proofs.ListEdits.{length-insert, length-remove, length-replace, every-insert, every-remove, every-replace, every-both}
use Rattle.edits.proofs.ListEdits.{get_or-insert-before, get_or-insert-after, get_or-remove-before, get_or-remove-after, get_or-replace-same, get_or-replace-other}
use Rattle.edits.proofs.Moves.{raised-before, raised-after, raised-none, lowered-before, lowered-after, lowered_none, by_place, neither}
use Rattle.edits.proofs.ChannelEdits.{insert-record, replace-record}
use Rattle.edits.proofs.MovedChannel.{SameContact, channel-moves, moved-wide, moved-bytes, channel-unless}
use Rattle.std.specs.Prelude.{Some, None, Option}
use Rattle.format.specs.declared.refusals.Reason.TheVariants as reason

-- ---- runs of rules that agree at each record

agree : (a b : List ℕ → ℕ → Validity) (P : List ℕ → Type 0) → ((s : List ℕ) (p : ℕ) → P s → a s p ≡ b s p)
    → (w p : ℕ) (l : List (List ℕ)) → Every P l → each_of a w p l ≡ each_of b w p l
unfolding each_of
agree a b P f w p [] h = refl
agree a b P f w p (s ∷ l) h = rw (f s p h.0, agree a b P f w (p + w) l h.1)

-- ---- a contact put in place of contact i

eqb-sym : (a b : ℕ) → eqb a b ≡ eqb b a
eqb-sym a b = by (eqb b a) refl
  where
    by : (t : Bool) → eqb b a ≡ t → eqb a b ≡ t
    by true e = eq-eqb a b (sym (eqb-true b a e))
    by false e = ne_eqb a b (λ d. eqb-false b a e (sym d))

names-replaced : (l : List (List ℕ)) (i : ℕ) (r : List ℕ) → i < length l → (mode : ℕ) (x : Option ℕ) → names_in l mode x ≡ true
    → names_in (replace_at i r l) mode x ≡ (not (is_index i x) || eqb mode (get_or r 32 0))
unfolding names_in is_index
names-replaced l i r g mode None h = refl
names-replaced l i r g mode (Some x) h = by (eqb x i) refl
  where
    by : (t : Bool) → eqb x i ≡ t
        → (ltb x (length (replace_at i r l)) && eqb (get_or (get_or (replace_at i r l) x []) 32 0) mode) ≡ (not t || eqb mode (get_or r 32 0))
    by true e =
        let d : x ≡ i = eqb-true x i e in
        rw (length-replace i r l g, d, lt-ltb i (length l) g, get_or-replace-same r [] i l g) (eqb-sym (get_or r 32 0) mode)
    by false e = rw (length-replace i r l g, get_or-replace-other r [] i l x g (eqb-false x i e)) h

-- ---- what 35 rules out

none-names : (i : ℕ) (l : List (List ℕ)) → some_names i l ≡ false → Every (λ s. is_index i (named_contact s) ≡ false) l
unfolding some_names
none-names i [] h = tt
none-names i (s ∷ l) h =
    let a = neither (is_index i (named_contact s)) (some_names i l) h in
    (a.0, none-names i l a.1)

-- ---- other contacts and channels

module _ (ed : Edition) (c : Codeplug) (a : AcceptedCodeplug ed c) where
  module _ (l m : List (List ℕ)) (e : length m ≡ length c.channels) where
    shaped-both : length l < 65536 → Wide 39 l → Every AllBytes l → Wide 90 m → Every AllBytes m
        → Shaped (with_contacts l (with_channels m c))
    unfolding with_contacts with_channels
    shaped-both fits wide bytes channels channels_bytes =
        let h = a.shaped in
        record {
          preamble = h.preamble;
          preamble_bytes = h.preamble_bytes;
          contacts_fit = fits;
          contacts = wide;
          contacts_bytes = bytes;
          channels_fit = rw e h.channels_fit;
          channels = channels;
          channels_bytes = channels_bytes;
          banks_fit = h.banks_fit;
          banks = h.banks;
          offsets_fit = h.offsets_fit;
        }

    module _ (h : Shaped (with_contacts l (with_channels m c))) where
      both-length : length (codeplug_bytes (with_contacts l (with_channels m c))) + length c.contacts * 39
          ≡ length (codeplug_bytes c) + length l * 39
      unfolding with_contacts with_channels
      both-length = omega (arith, length-codeplug (with_contacts l (with_channels m c)) h, length-codeplug c a.shaped)

      -- after the length only contacts and channels can refuse
      both-result : file_rule ed (codeplug_bytes (with_contacts l (with_channels m c)))
          ≡ unless (leb (length (codeplug_bytes (with_contacts l (with_channels m c)))) 1_048_576) reason.TooLong 0
          then each_of (contact_rule ed) 39 88 l
          then each_of (channel_in l) 90 (88 + length l * 39) m
      unfolding with_contacts with_channels ◌then◌
      both-result =
          file-validated (with_contacts l (with_channels m c)) h ed
          ∙ rw (
            a.preamble,
            banks_ok-passes (length m) _ c.banks (rw e a.banks),
            then-of-valid (each_of (channel_in l) 90 (88 + length l * 39) m),
          )

      both-result-short : length l ≤ length c.contacts
          → file_rule ed (codeplug_bytes (with_contacts l (with_channels m c)))
          ≡ each_of (contact_rule ed) 39 88 l then each_of (channel_in l) 90 (88 + length l * 39) m
      unfolding ◌then◌
      both-result-short s =
          both-result
          ∙ rw (unless-passes (leb (length (codeplug_bytes (with_contacts l (with_channels m c)))) 1_048_576) reason.TooLong 0
          (le-leb (length (codeplug_bytes (with_contacts l (with_channels m c)))) 1_048_576 (omega (arith, a.short, both-length))))

  new-contact : (i : ℕ) (r : List ℕ) → contact_rule ed r (88 + i * 39) ≡ contact_rule ed r (contact_place i)
  unfolding contact_place
  new-contact i r = refl

  -- ---- 3

  module _ (i : ℕ) (r : List ℕ) (g : i < length c.contacts) (w : length r ≡ 39) (b : AllBytes r) where
    abbrev keep_rule : List ℕ → ℕ → Validity
    keep_rule s p = unless (not (is_index i (named_contact s)) || eqb (get_or s 0 0) (get_or r 32 0)) reason.ContactIndex (index_place s p)

    keeps-or-not : (s : List ℕ) (p : ℕ) → ChannelValid c.contacts s → channel_in (replace_at i r c.contacts) s p ≡ keep_rule s p
    unfolding channel_in index_place
    keeps-or-not s p h =
        let l = replace_at i r c.contacts in
        channel-unless s p h.valid h.whole (names_in l (get_or s 0 0) (named_contact s)) (λ e. fm-names l s e)
        ∙ rw (names-replaced c.contacts i r g (get_or s 0 0) (named_contact s) h.names)

    keeps-each : each (keeps_mode (codeplug_bytes c) i (get_or r 32 0)) (channel_count (codeplug_bytes c)) 90 (channel_place (codeplug_bytes c) 0)
        ≡ each_of keep_rule 90 (channels_start c) c.channels
    unfolding keeps_mode
    keeps-each = channels-validated c a.shaped keep_rule

    pub shaped-replace-contact : Shaped (with_contacts (replace_at i r c.contacts) c)
    unfolding with_channels
    shaped-replace-contact =
        let l = c.contacts in
        let h = a.shaped in
        shaped-both (replace_at i r l) c.channels refl (omega (arith, length-replace i r l g, h.contacts_fit))
        (every-replace (λ s. length s ≡ 39) i r l w h.contacts) (every-replace AllBytes i r l b h.contacts_bytes) h.channels
        h.channels_bytes

    pub replace-contact-is : file_rule ed (codeplug_bytes (with_contacts (replace_at i r c.contacts) c))
        ≡ contact_rule ed r (contact_place i)
        then each (keeps_mode (codeplug_bytes c) i (get_or r 32 0)) (channel_count (codeplug_bytes c)) 90 (channel_place (codeplug_bytes c) 0)
    unfolding with_channels
    replace-contact-is =
        let l = c.contacts in
        let k = replace_at i r l in
        both-result-short k c.channels refl shaped-replace-contact (omega (arith, length-replace i r l g))
        ∙ rw (
          replace-record (contact_rule ed) 39 (ContactValid ed) (contacts-pass ed) 88 i r l g a.contacts,
          new-contact i r,
          agree (channel_in k) keep_rule (ChannelValid l) keeps-or-not 90 (88 + length k * 39) c.channels a.channels,
          length-replace i r l g,
          keeps-each,
        )

  -- ---- channels whose contact index moves

  module _ (k : List (List ℕ)) (move : ℕ → ℕ) (none : move 65535 ≡ 65535) (fits : length k ≤ 65535) (Q : List ℕ → Type 0)
      (f : (s : List ℕ) (x : ℕ) → Q s → named_contact s ≡ Some x → x < length c.contacts → SameContact c.contacts k move x)
    where
      moved-channels : Every Q c.channels → Every (ChannelValid k) (map (move_contact move) c.channels)
      moved-channels q =
          every_map (λ s. ChannelValid c.contacts s × (length s ≡ 90 × Q s)) (ChannelValid k) (move_contact move) c.channels
          (λ s p. channel-moves c.contacts k move none fits s p.0 p.1.0 (λ x. f s x p.1.1))
          (every-both (ChannelValid c.contacts) (λ s. length s ≡ 90 × Q s) c.channels a.channels
          (every-both (λ s. length s ≡ 90) Q c.channels a.shaped.channels q))

  shaped-moved : (k : List (List ℕ)) (move : ℕ → ℕ) → length k < 65536 → Wide 39 k → Every AllBytes k
      → Shaped (with_contacts k (move_contacts move c))
  unfolding move_contacts
  shaped-moved k move fits wide bytes =
      let h = a.shaped in
      let m = map (move_contact move) c.channels in
      shaped-both k m (length-map c.channels (move_contact move)) fits wide bytes
      (every_map (λ s. length s ≡ 90) (λ s. length s ≡ 90) (move_contact move) c.channels (moved-wide move) h.channels)
      (every_map AllBytes AllBytes (move_contact move) c.channels (moved-bytes move) h.channels_bytes)

  -- ---- 1

  module _ (i : ℕ) (r : List ℕ) (g : i ≤ length c.contacts) (n : length c.contacts < 65535) (w : length r ≡ 39) (b : AllBytes r)
    where
      raised-follows : (x : ℕ) → x < length c.contacts → SameContact c.contacts (insert_at i r c.contacts) (raised i) x
      raised-follows x h =
          let l = c.contacts in
          let m = length-insert i r l g in
          by_place (SameContact l (insert_at i r l) (raised i) x) i x
          (λ k. rw (raised-before i x k) (omega arith, get_or-insert-before r [] i l x g k))
          (λ k. rw (raised-after i x k (omega arith)) (omega arith, get_or-insert-after r [] i l x g k))

      pub shaped-insert-contact : Shaped (with_contacts (insert_at i r c.contacts) (move_contacts (raised i) c))
      shaped-insert-contact =
          let l = c.contacts in
          let h = a.shaped in
          shaped-moved (insert_at i r l) (raised i) (omega (arith, length-insert i r l g))
          (every-insert (λ s. length s ≡ 39) i r l w h.contacts) (every-insert AllBytes i r l b h.contacts_bytes)

      pub insert-contact-is : file_rule ed (codeplug_bytes (with_contacts (insert_at i r c.contacts) (move_contacts (raised i) c)))
          ≡ may_grow 39 (codeplug_bytes c) then contact_rule ed r (contact_place i)
      unfolding move_contacts may_grow
      insert-contact-is =
          let l = c.contacts in
          let k = insert_at i r l in
          let m = map (move_contact (raised i)) c.channels in
          let e = length-map c.channels (move_contact (raised i)) in
          let h = shaped-insert-contact in
          let z : length (codeplug_bytes (with_contacts k (with_channels m c))) ≡ length (codeplug_bytes c) + 39 =
          omega (arith, both-length k m e h, length-insert i r l g)
          in
          let valid : Every (ChannelValid k) m =
          moved-channels k (raised i) (raised-none i) (omega (arith, length-insert i r l g)) (λ s. Unit {0}) (λ s x q d. raised-follows x)
          (every-each (λ s. Unit {0}) c.channels (λ s. tt))
          in
          both-result k m e h
          ∙ rw (
            z,
            insert-record (contact_rule ed) 39 (ContactValid ed) (contacts-pass ed) 88 i r l g a.contacts,
            new-contact i r,
            channels-pass k (88 + length k * 39) m valid,
            then-of-valid (contact_rule ed r (contact_place i)),
          )

  -- ---- 2

  module _ (i : ℕ) (g : i < length c.contacts) (u : some_names i c.channels ≡ false) where
    lowered-follows : (x : ℕ) → eqb x i ≡ false → x < length c.contacts
        → SameContact c.contacts (remove_at i c.contacts) (lowered i) x
    lowered-follows x q h =
        let l = c.contacts in
        let m = length-remove i l g in
        let n = a.shaped.contacts_fit in
        by_place (SameContact l (remove_at i l) (lowered i) x) i x
        (λ k. rw (lowered-before i x (omega arith)) (omega arith, get_or-remove-before [] i l x g k))
        (λ k.
        let d : x ≡ i → ⊥ = eqb-false x i q in
        let p : i < x = omega arith in
        let e : suc (x - 1) ≡ x = omega arith in
        let y : get_or (remove_at i l) (x - 1) [] ≡ get_or l x [] = get_or-remove-after [] i l (x - 1) g (omega arith) ∙ rw e in
        rw (lowered-after i x p (omega arith)) (omega arith, y))

    pub shaped-remove-contact : Shaped (with_contacts (remove_at i c.contacts) (move_contacts (lowered i) c))
    shaped-remove-contact =
        let l = c.contacts in
        let h = a.shaped in
        shaped-moved (remove_at i l) (lowered i) (omega (arith, length-remove i l g, h.contacts_fit))
        (every-remove (λ s. length s ≡ 39) i l h.contacts) (every-remove AllBytes i l h.contacts_bytes)

    pub remove-contact-is : file_rule ed (codeplug_bytes (with_contacts (remove_at i c.contacts) (move_contacts (lowered i) c))) ≡ Valid
    unfolding move_contacts ◌then◌ is_index
    remove-contact-is =
        let l = c.contacts in
        let k = remove_at i l in
        let m = map (move_contact (lowered i)) c.channels in
        let e = length-map c.channels (move_contact (lowered i)) in
        let h = shaped-remove-contact in
        let valid : Every (ChannelValid k) m =
        moved-channels k (lowered i) (lowered_none i) (omega (arith, length-remove i l g, a.shaped.contacts_fit))
        (λ s. is_index i (named_contact s) ≡ false) (λ s x q d. lowered-follows x (rw d at q)) (none-names i c.channels u)
        in
        both-result-short k m e h (omega (arith, length-remove i l g))
        ∙ rw (contacts-pass ed 88 k (every-remove (ContactValid ed) i l a.contacts), channels-pass k (88 + length k * 39) m valid)
