-- Laws of the whole file: what an accepted file gives.
use Prim.Native.Nat.{ℕ, ◌+◌, ◌*◌, ◌≤◌, ◌<◌}
use mathlib.Core.Path.{◌≡◌, ap, sym, ◌∙◌}
use mathlib.Core.List.{List}
use native.Mathlib.Omega.{arith}
use lib.ListN.{length, get_or}
use lib.Dec.{leb}
use borrow.Author.Tests.{le-leb, leb-true}
use Rattle.fields.specs.Bytes.{part, num}
use Rattle.fields.proofs.Laws.{then-valid, both-valid, unless-valid, unless-passes, each-valid}
use Rattle.m17.specs.declared.Edition.{Edition}
use Rattle.contact.proofs.RoundTrip as contact
use Rattle.channel.specs.Values.{contact_index_place, contact_index_of}
use Rattle.channel.specs.Rule.{channel_rule}
use Rattle.channel.proofs.Laws as channel
use Rattle.layout.specs.Places.{contact_count, channel_count, contact_place, channel_place}
use Rattle.layout.specs.Header.{header_rule}
use Rattle.layout.specs.Banks.{offsets_rule, banks_rule}
use Rattle.layout.proofs.Laws.{header-length}
use Rattle.file_rule.specs.File.{contact_at, contacts_rule, names_contact, index_ok, channel_at, channels_rule, file_rule}
use Rattle.format.specs.declared.refusals.Reason.TheVariants as reason
use Rattle.fields.specs.Rule.{Valid}

-- ---- the parts of an accepted file

pub record ValidFile (ed : Edition) (f : List ℕ) : Type 0 where
  pub short : length f ≤ 1_048_576
  pub header : header_rule f ≡ Valid
  pub contacts : contacts_rule ed f ≡ Valid
  pub channels : channels_rule f ≡ Valid
  pub offsets : offsets_rule f ≡ Valid
  pub banks : banks_rule f ≡ Valid

pub file-valid : (ed : Edition) (f : List ℕ) → file_rule ed f ≡ Valid → ValidFile ed f
unfolding file_rule
file-valid ed f h =
    let a = then-valid _ _ h in
    let b = then-valid _ _ a.1 in
    let c = then-valid _ _ b.1 in
    let d = then-valid _ _ c.1 in
    let e = then-valid _ _ d.1 in
    record {
      short = leb-true (length f) 1_048_576 (unless-valid (leb (length f) 1_048_576) reason.TooLong 0 a.0);
      header = b.0;
      contacts = c.0;
      channels = d.0;
      offsets = e.0;
      banks = e.1;
    }

pub file-passes : (ed : Edition) (f : List ℕ) → ValidFile ed f → file_rule ed f ≡ Valid
unfolding file_rule
file-passes ed f g =
    both-valid _ _ (unless-passes (leb (length f) 1_048_576) reason.TooLong 0 (le-leb (length f) 1_048_576 g.short))
    (both-valid _ _ g.header
    (both-valid _ _ g.contacts (both-valid _ _ g.channels (both-valid _ _ g.offsets g.banks))))

pub file-header : (ed : Edition) (f : List ℕ) → file_rule ed f ≡ Valid → 88 ≤ length f
file-header ed f h = header-length f (file-valid ed f h).header

-- ---- contact n and channel n

pub contact-walks : (n : ℕ) → contact_place 0 + n * 39 ≡ contact_place n
unfolding contact_place
contact-walks n = omega arith

pub contact-there : (ed : Edition) (f : List ℕ) (n : ℕ) → contacts_rule ed f ≡ Valid → n < contact_count f → contact_at ed f (contact_place n) ≡ Valid
unfolding contacts_rule
contact-there ed f n h g =
    ap (λ (p : ℕ). contact_at ed f p) (sym (contact-walks n)) ∙ each-valid (contact_at ed f) (contact_count f) 39 (contact_place 0) h n g

pub contact-whole : (ed : Edition) (f : List ℕ) (p : ℕ) → contact_at ed f p ≡ Valid → 39 ≤ length (part f p 39)
contact-whole ed f p h = contact.valid-length ed (part f p 39) p h

channel-walks : (f : List ℕ) (n : ℕ) → channel_place f 0 + n * 90 ≡ channel_place f n
unfolding channel_place
channel-walks f n = omega arith

pub channel-there : (f : List ℕ) (n : ℕ) → channels_rule f ≡ Valid → n < channel_count f → channel_at f (channel_place f n) ≡ Valid
unfolding channels_rule
channel-there f n h g =
    ap (λ (p : ℕ). channel_at f p) (sym (channel-walks f n))
    ∙ each-valid (channel_at f) (channel_count f) 90 (channel_place f 0) h n g

pub channel-whole : (f : List ℕ) (p : ℕ) → channel_at f p ≡ Valid → 90 ≤ length (part f p 90)
channel-whole f p h = channel.valid-length (part f p 90) p (index_ok f (part f p 90)) h

-- 9 is given for the number in the two bytes at the index's place, whatever the record: where they are not all there, or the mode is not
-- FM, DMR or M17, 2 and 6 come before
pub index-by-bytes : (f s : List ℕ) (p : ℕ)
    → channel_rule s p (index_ok f s)
    ≡ channel_rule s p (names_contact f (get_or s 0 0) (contact_index_of (num s (contact_index_place (get_or s 0 0)) 2)))
unfolding index_ok
index-by-bytes f s p =
    channel.named-unread s p _ _
    (λ e l. rw (channel.dmr-named s e l, e))
    (λ e l. rw (channel.m17-named s e l, e))
