-- Edits 4, 5 and 6: channels inserted, removed and replaced. Bank entries that move stay below the count of channels, so of the result
-- only the new channel can refuse.
use Prim.Native.Nat.{ℕ, suc, ◌+◌, ◌*◌, ◌^◌, ◌≤◌, ◌<◌}
use mathlib.Core.Path.{◌≡◌, refl, sym, ◌∙◌}
use mathlib.Core.Bool.{false}
use mathlib.Core.List.{List, [], ◌∷◌, ◌++◌, map}
use native.Mathlib.Omega.{arith}
use lib.ListN.{length, take, drop, length-map}
use lib.Seq.{length-take-le}
use lib.Dec.{leb}
use borrow.Author.Tests.{le-leb}
use Rattle.fields.specs.Rule.{◌then◌, unless, Validity, Valid}
use Rattle.fields.proofs.Laws.{then-of-valid, unless-passes, AllBytes}
use Rattle.m17.specs.declared.Edition.{Edition}
use Rattle.channel.specs.Rule.{channel_rule}
use Rattle.layout.specs.Places.{channel_place}
use Rattle.file_rule.specs.File.{index_ok, file_rule}
use Rattle.model.specs.Codeplug.{Bank, Codeplug, bank_bytes, codeplug_bytes}
use Rattle.model.specs.Edits.{insert_at, remove_at, replace_at, raised, lowered, move_entries, with_channels, with_banks, move_channels}
use Rattle.model.specs.EditRules.{some_holds}
use Rattle.model.proofs.Blocks.{Every, Wide, Small, every-so, every_map, every_take, every_drop, banks_bytes, length-bank_bytes}
use Rattle.model.proofs.Shape.{BankShaped, Shaped, channels_start, length-codeplug, channel-place}
use Rattle.model.proofs.Validated.{each_of, each_of-append, BankValid, banks_ok-passes}
use Rattle.edits.specs.ResultValidity.{may_grow}
use Rattle.edits.proofs.AcceptedCodeplug.{channel_in, index_ok_lem, file-validated, ChannelValid, contacts-pass, channels-pass, AcceptedCodeplug}
use Rattle.edits.proofs.ListEdits.{length-insert, length-remove, length-replace, every-insert, every-remove, every-replace, every-both}
use Rattle.edits.proofs.Moves.{raised-le, lowered-below, none-holds}
use Rattle.edits.proofs.BankEdits.{length-cons}
use Rattle.format.specs.declared.refusals.Reason.TheVariants as reason

-- ---- one record among valid ones

module _ (rule : List ℕ → ℕ → Validity) (w : ℕ) (P : List ℕ → Type 0)
    (pass : (p : ℕ) (l : List (List ℕ)) → Every P l → each_of rule w p l ≡ Valid) where
  one-record : (p : ℕ) (a : List (List ℕ)) (s : List ℕ) (z : List (List ℕ)) → Every P a → Every P z
      → each_of rule w p (a ++ (s ∷ z)) ≡ rule s (p + length a * w)
  unfolding ◌then◌ each_of
  one-record p a s z ha hz =
      each_of-append rule w p a (s ∷ z)
      ∙ rw (pass p a ha, pass (p + length a * w + w) z hz) (then-of-valid (rule s (p + length a * w)))

  pub insert-record : (p i : ℕ) (s : List ℕ) (l : List (List ℕ)) → i ≤ length l → Every P l
      → each_of rule w p (insert_at i s l) ≡ rule s (p + i * w)
  unfolding insert_at
  insert-record p i s l g h =
      one-record p (take i l) s (drop i l) (every_take P i l h) (every_drop P i l h) ∙ rw (length-take-le i l g)

  pub replace-record : (p i : ℕ) (s : List ℕ) (l : List (List ℕ)) → i < length l → Every P l
      → each_of rule w p (replace_at i s l) ≡ rule s (p + i * w)
  unfolding replace_at
  replace-record p i s l g h =
      one-record p (take i l) s (drop (suc i) l) (every_take P i l h) (every_drop P (suc i) l h)
      ∙ rw (length-take-le i l (omega arith))

-- ---- banks whose entries move

pub moved-bank-length : (move : ℕ → ℕ) (b : Bank) → BankShaped b → length (bank_bytes (move_entries move b)) ≡ length (bank_bytes b)
unfolding move_entries
moved-bank-length move b h =
    length-bank_bytes (move_entries move b) h.wide ∙ rw (length-map b.entries move) (sym (length-bank_bytes b h.wide))

pub moved_length : (move : ℕ → ℕ) (l : List Bank) → Every BankShaped l
    → length (banks_bytes (map (move_entries move) l)) ≡ length (banks_bytes l)
moved_length move [] h = refl
moved_length move (b ∷ l) h =
    omega (
      arith,
      length-cons (move_entries move b) (map (move_entries move) l),
      length-cons b l,
      moved-bank-length move b h.0,
      moved_length move l h.1,
    )

-- entries for which P holds, moved to below n
module _ (move : ℕ → ℕ) (n : ℕ) (P : ℕ → Type 0) (below : (x : ℕ) → P x → move x < n) where
  moved-shaped : n ≤ 65536 → (b : Bank) → BankShaped b → Every P b.entries → BankShaped (move_entries move b)
  unfolding move_entries
  moved-shaped fits b h e =
      record {
        wide = h.wide;
        bytes = h.bytes;
        fits = rw (length-map b.entries move) h.fits;
        small = every_map P Small move b.entries (λ x p. let z = below x p in omega arith) e;
      }

  moved-valid : (m : ℕ) (b : Bank) → BankValid m b → Every P b.entries → BankValid n (move_entries move b)
  unfolding move_entries
  moved-valid m b h e = record { text = h.text; below = every_map P (λ x. x < n) move b.entries below e }

-- ---- other channels and banks

module _ (ed : Edition) (c : Codeplug) (a : AcceptedCodeplug ed c) where
  module _ (l : List (List ℕ)) (m : List Bank) where
    shaped-both : length l < 65536 → Wide 90 l → Every AllBytes l → length m < 65536 → Every BankShaped m
        → length (banks_bytes m) < 2 ^ 32 → Shaped (with_channels l (with_banks m c))
    unfolding with_channels with_banks
    shaped-both fits wide bytes banks_fit banks room =
        let h = a.shaped in
        record {
          preamble = h.preamble;
          preamble_bytes = h.preamble_bytes;
          contacts_fit = h.contacts_fit;
          contacts = h.contacts;
          contacts_bytes = h.contacts_bytes;
          channels_fit = fits;
          channels = wide;
          channels_bytes = bytes;
          banks_fit = banks_fit;
          banks = banks;
          offsets_fit = room;
        }

    module _ (h : Shaped (with_channels l (with_banks m c))) where
      both-length : length (codeplug_bytes (with_channels l (with_banks m c)))
          ≡ channels_start c + length l * 90 + length m * 4 + length (banks_bytes m)
      unfolding with_channels with_banks
      both-length = length-codeplug (with_channels l (with_banks m c)) h

      -- after the length only the channels can refuse
      both-result : Every (BankValid (length l)) m → file_rule ed (codeplug_bytes (with_channels l (with_banks m c)))
          ≡ unless (leb (length (codeplug_bytes (with_channels l (with_banks m c)))) 1_048_576) reason.TooLong 0
          then each_of (channel_in c.contacts) 90 (channels_start c) l
      unfolding with_channels with_banks ◌then◌
      both-result g =
          file-validated (with_channels l (with_banks m c)) h ed
          ∙ rw (
            a.preamble,
            contacts-pass ed 88 c.contacts a.contacts,
            banks_ok-passes (length l) _ m g,
            then-of-valid (each_of (channel_in c.contacts) 90 (channels_start c) l),
          )

      both-result-short : Every (BankValid (length l)) m
          → length (codeplug_bytes (with_channels l (with_banks m c))) ≤ length (codeplug_bytes c)
          → file_rule ed (codeplug_bytes (with_channels l (with_banks m c))) ≡ each_of (channel_in c.contacts) 90 (channels_start c) l
      unfolding ◌then◌
      both-result-short g s =
          both-result g
          ∙ rw (unless-passes (leb (length (codeplug_bytes (with_channels l (with_banks m c)))) 1_048_576) reason.TooLong 0
          (le-leb (length (codeplug_bytes (with_channels l (with_banks m c)))) 1_048_576 (omega (arith, a.short))))

  -- the new channel, where it stands
  new-channel : (i : ℕ) (r : List ℕ)
      → channel_in c.contacts r (channels_start c + i * 90)
      ≡ channel_rule r (channel_place (codeplug_bytes c) i) (index_ok (codeplug_bytes c) r)
  unfolding channel_in
  new-channel i r = rw (channel-place c a.shaped i, index_ok_lem c a.shaped r)

  -- ---- 6

  module _ (i : ℕ) (r : List ℕ) (g : i < length c.channels) (w : length r ≡ 90) (b : AllBytes r) where
    pub shaped-replace-channel : Shaped (with_channels (replace_at i r c.channels) c)
    unfolding with_banks
    shaped-replace-channel =
        let l = c.channels in
        let h = a.shaped in
        shaped-both (replace_at i r l) c.banks (omega (arith, length-replace i r l g, h.channels_fit))
        (every-replace (λ s. length s ≡ 90) i r l w h.channels) (every-replace AllBytes i r l b h.channels_bytes) h.banks_fit
        h.banks h.offsets_fit

    pub replace-channel-is : file_rule ed (codeplug_bytes (with_channels (replace_at i r c.channels) c))
        ≡ channel_rule r (channel_place (codeplug_bytes c) i) (index_ok (codeplug_bytes c) r)
    unfolding with_banks
    replace-channel-is =
        let l = c.channels in
        let m = c.banks in
        let h = shaped-replace-channel in
        let z : length (codeplug_bytes (with_channels (replace_at i r l) c)) ≤ length (codeplug_bytes c) =
        omega (arith, both-length (replace_at i r l) m h, length-codeplug c a.shaped, length-replace i r l g)
        in
        both-result-short (replace_at i r l) m h (rw (length-replace i r l g) a.banks) z
        ∙ replace-record (channel_in c.contacts) 90 (ChannelValid c.contacts) (channels-pass c.contacts) (channels_start c) i r l g
        a.channels
        ∙ new-channel i r

  -- ---- 4

  module _ (i : ℕ) (r : List ℕ) (g : i ≤ length c.channels) (f : length c.channels < 65535) (w : length r ≡ 90) (b : AllBytes r)
    where
      raised_below : (x : ℕ) → x < length c.channels → raised i x < suc (length c.channels)
      raised_below x h = omega (arith, raised-le i x)

      raised-shaped : Every BankShaped (map (move_entries (raised i)) c.banks)
      raised-shaped =
          let n = length c.channels in
          every_map (λ x. BankShaped x × BankValid n x) BankShaped (move_entries (raised i)) c.banks
          (λ x p. moved-shaped (raised i) (suc n) (λ x. x < n) raised_below (omega arith) x p.0 p.1.below)
          (every-both BankShaped (BankValid n) c.banks a.shaped.banks a.banks)

      raised-valid : Every (BankValid (suc (length c.channels))) (map (move_entries (raised i)) c.banks)
      raised-valid =
          let n = length c.channels in
          every_map (BankValid n) (BankValid (suc n)) (move_entries (raised i)) c.banks
          (λ x p. moved-valid (raised i) (suc n) (λ x. x < n) raised_below n x p p.below)
          a.banks

      pub shaped-insert-channel : Shaped (with_channels (insert_at i r c.channels) (move_channels (raised i) c))
      unfolding move_channels
      shaped-insert-channel =
          let l = c.channels in
          let h = a.shaped in
          let m = map (move_entries (raised i)) c.banks in
          shaped-both (insert_at i r l) m (omega (arith, length-insert i r l g)) (every-insert (λ s. length s ≡ 90) i r l w h.channels)
          (every-insert AllBytes i r l b h.channels_bytes) (rw (length-map c.banks (move_entries (raised i))) h.banks_fit) raised-shaped
          (rw (moved_length (raised i) c.banks h.banks) h.offsets_fit)

      pub insert-channel-is : file_rule ed (codeplug_bytes (with_channels (insert_at i r c.channels) (move_channels (raised i) c)))
          ≡ may_grow 90 (codeplug_bytes c) then channel_rule r (channel_place (codeplug_bytes c) i) (index_ok (codeplug_bytes c) r)
      unfolding move_channels may_grow
      insert-channel-is =
          let l = c.channels in
          let m = map (move_entries (raised i)) c.banks in
          let h = shaped-insert-channel in
          let z : length (codeplug_bytes (with_channels (insert_at i r l) (with_banks m c))) ≡ length (codeplug_bytes c) + 90 =
          omega (
            arith,
            both-length (insert_at i r l) m h,
            length-codeplug c a.shaped,
            length-insert i r l g,
            length-map c.banks (move_entries (raised i)),
            moved_length (raised i) c.banks a.shaped.banks,
          )
          in
          both-result (insert_at i r l) m h (rw (length-insert i r l g) raised-valid)
          ∙ rw (
            z,
            insert-record (channel_in c.contacts) 90 (ChannelValid c.contacts) (channels-pass c.contacts) (channels_start c) i r l g
                a.channels,
            new-channel i r,
          )

  -- ---- 5

  module _ (i : ℕ) (g : i < length c.channels) (u : some_holds i c.banks ≡ false) where
    -- an entry below the count that is not i
    abbrev Other : ℕ → Type 0
    Other x = (x < length c.channels) × (x ≡ i → ⊥)

    others : Every (λ b. Every Other b.entries) c.banks
    others =
        let n = length c.channels in
        every-so (λ b. BankValid n b × Every (λ x. x ≡ i → ⊥) b.entries) (λ b. Every Other b.entries) c.banks
        (λ b p. every-both (λ x. x < n) (λ x. x ≡ i → ⊥) b.entries p.0.below p.1)
        (every-both (BankValid n) (λ b. Every (λ x. x ≡ i → ⊥) b.entries) c.banks a.banks (none-holds i c.banks u))

    lowered-in : (x : ℕ) → Other x → lowered i x < length (remove_at i c.channels)
    lowered-in x p =
        let e = length-remove i c.channels g in
        let h = a.shaped.channels_fit in
        lowered-below i x (length (remove_at i c.channels)) (omega (arith, p.0)) (omega arith) (omega arith) p.1

    lowered-shaped : Every BankShaped (map (move_entries (lowered i)) c.banks)
    lowered-shaped =
        let n = length (remove_at i c.channels) in
        let e = length-remove i c.channels g in
        let h = a.shaped.channels_fit in
        every_map (λ x. BankShaped x × Every Other x.entries) BankShaped (move_entries (lowered i)) c.banks
        (λ x p. moved-shaped (lowered i) n Other lowered-in (omega arith) x p.0 p.1)
        (every-both BankShaped (λ b. Every Other b.entries) c.banks a.shaped.banks others)

    lowered-valid : Every (BankValid (length (remove_at i c.channels))) (map (move_entries (lowered i)) c.banks)
    lowered-valid =
        let n = length c.channels in
        let k = length (remove_at i c.channels) in
        every_map (λ x. BankValid n x × Every Other x.entries) (BankValid k) (move_entries (lowered i)) c.banks
        (λ x p. moved-valid (lowered i) k Other lowered-in n x p.0 p.1)
        (every-both (BankValid n) (λ b. Every Other b.entries) c.banks a.banks others)

    pub shaped-remove-channel : Shaped (with_channels (remove_at i c.channels) (move_channels (lowered i) c))
    unfolding move_channels
    shaped-remove-channel =
        let l = c.channels in
        let h = a.shaped in
        let m = map (move_entries (lowered i)) c.banks in
        shaped-both (remove_at i l) m (omega (arith, length-remove i l g, h.channels_fit)) (every-remove (λ s. length s ≡ 90) i l h.channels)
        (every-remove AllBytes i l h.channels_bytes) (rw (length-map c.banks (move_entries (lowered i))) h.banks_fit) lowered-shaped
        (rw (moved_length (lowered i) c.banks h.banks) h.offsets_fit)

    pub remove-channel-is : file_rule ed (codeplug_bytes (with_channels (remove_at i c.channels) (move_channels (lowered i) c))) ≡ Valid
    unfolding move_channels
    remove-channel-is =
        let l = c.channels in
        let m = map (move_entries (lowered i)) c.banks in
        let h = shaped-remove-channel in
        let z : length (codeplug_bytes (with_channels (remove_at i l) (with_banks m c))) ≤ length (codeplug_bytes c) =
        omega (
          arith,
          both-length (remove_at i l) m h,
          length-codeplug c a.shaped,
          length-remove i l g,
          length-map c.banks (move_entries (lowered i)),
          moved_length (lowered i) c.banks a.shaped.banks,
        )
        in
        both-result-short (remove_at i l) m h lowered-valid z
        ∙ channels-pass c.contacts (channels_start c) (remove_at i l) (every-remove (ChannelValid c.contacts) i l a.channels)
