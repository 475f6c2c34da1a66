-- What a user may expect of an accepted file.
use Prim.Native.Nat.{ℕ, ◌+◌, ◌*◌, ◌/◌, ◌≤◌, ◌<◌}
use mathlib.Core.Path.{◌≡◌, refl, ap, sym, ◌∙◌}
use mathlib.Core.Bool.{Bool, true, false}
use mathlib.Core.List.{List}
use native.Mathlib.Omega.{arith}
use lib.ListN.{length, get_or, length-take}
use lib.Dec.{ltb}
use borrow.Author.Tests.{ltb-true}
use Rattle.fields.specs.Bytes.{part, num}
use Rattle.fields.proofs.Laws.{num-part}
use Rattle.m17.specs.declared.Edition.{Edition}
use Rattle.contact.specs.Contact.{contact_of, contact_answer}
use Rattle.channel.specs.Rule.{channel_rule, named_contact}
use Rattle.channel_reader.specs.Reading.{dmr_of, m17_of, info_of, channel_of, channel_answer}
use Rattle.channel.specs.Values.{mode_number}
use Rattle.channel.specs.declared.Channel.{Channel}
use Rattle.channel.specs.declared.Info.{Info}
use Rattle.channel.specs.declared.Info.TheVariants.{Fm, Dmr, M17}
use Rattle.channel.proofs.Laws.{by_mode, valid-named, valid-channel, valid-length, dmr-named, m17-named, fm-names-none}
use Rattle.layout.specs.Places.{contact_count, channel_count, bank_count, contact_place, channel_place}
use Rattle.layout.specs.Banks.{bank_place, entry_count}
use Rattle.layout.proofs.Laws.{bank-valid, entry-valid}
use Rattle.entries.specs.Entry.{entry_step}
use Rattle.file_rule.specs.File.{names_contact, index_ok, file_rule}
use Rattle.codeplug.specs.Read.{place_rule, contact_read, channel_read, bank_of, bank_answer, bank_read, entries_answer, entries_read, entry_answer, entry_read}
use Rattle.file_rule.proofs.Laws.{file-valid, channel-there}
use Rattle.codeplug.proofs.Laws.{place-valid, place-passes}
use Rattle.std.specs.Prelude.{Ok, Err, Result, None, Option}
use Rattle.format.specs.declared.refusals.Refusal.{Refusal}
use Rattle.entries.specs.declared.EntryStep.{EntryStep}
use Rattle.format.specs.declared.refusals.Reason.TheVariants as reason
use Rattle.fields.specs.Rule.{Validity, Valid, Refused}

-- ---- every record below its count is read

pub contact-reads : (ed : Edition) (f : List ℕ) (n : ℕ) → file_rule ed f ≡ Valid → n < contact_count f
    → contact_read ed f n ≡ Ok (contact_of (part f (contact_place n) 39))
unfolding contact_read contact_answer
contact-reads ed f n h g = rw (place-passes ed f n (contact_count f) h g)

pub channel-reads : (ed : Edition) (f : List ℕ) (n : ℕ) → file_rule ed f ≡ Valid → n < channel_count f
    → channel_read ed f n ≡ Ok (channel_of (part f (channel_place f n) 90))
unfolding channel_read channel_answer
channel-reads ed f n h g = rw (place-passes ed f n (channel_count f) h g)

pub bank-reads : (ed : Edition) (f : List ℕ) (n : ℕ) → file_rule ed f ≡ Valid → n < bank_count f
    → bank_read ed f n ≡ Ok (bank_of (part f (bank_place f n) 34))
unfolding bank_read bank_answer
bank-reads ed f n h g = rw (place-passes ed f n (bank_count f) h g)

-- ---- every entry of a bank names a channel

-- entry i of a bank at p with m entries, all valid
entry_of : (f : List ℕ) (p m i c j : ℕ) → ((k : ℕ) → k < m → num f (p + k * 2) 2 < channel_count f)
    → entry_step (part f p (m * 2)) i ≡ Ok (record { channel = c; next = j }) → c < channel_count f
unfolding entry_step
entry_of f p m i c j all h = by (ltb i (length (part f p (m * 2)) / 2)) refl
  where
    by : (t : Bool) → ltb i (length (part f p (m * 2)) / 2) ≡ t → c < channel_count f
    by true e =
        let a : ◌≡◌ {A = Result EntryStep Refusal} (Ok (record { channel = num (part f p (m * 2)) (i * 2) 2; next = i + 1 })) (Ok (record { channel = c; next = j })) = rw e at h in
        let l : length (part f p (m * 2)) ≤ m * 2 = rw length-take (omega arith) in
        let b : i < m = omega (arith, ltb-true i (length (part f p (m * 2)) / 2) e) in
        let same : ◌≡◌ {A = EntryStep} (record { channel = num (part f p (m * 2)) (i * 2) 2; next = i + 1 }) (record { channel = c; next = j }) = cc in
        let d : num (part f p (m * 2)) (i * 2) 2 ≡ c = ap (λ (t : EntryStep). t.channel) same in
        omega (arith, num-part f p (m * 2) (i * 2) 2 (omega arith), all i b)
    by false e =
        let a : ◌≡◌ {A = Result EntryStep Refusal} (Refused reason.NoPlace 0) (Ok (record { channel = c; next = j })) = rw e at h in
        let z : ◌≡◌ {A = ℕ} 0 1 = cc in
        absurd (omega arith)

pub entry-names : (ed : Edition) (f : List ℕ) (n i c j : ℕ) → entry_read ed f n i ≡ Ok (record { channel = c; next = j }) → c < channel_count f
unfolding entry_read entry_answer entries_read entries_answer
entry-names ed f n i c j h = by (place_rule ed f n (bank_count f)) refl
  where
    by : (v : Validity) → place_rule ed f n (bank_count f) ≡ v → c < channel_count f
    by (Ok u) e =
        let g = place-valid ed f n (bank_count f) e in
        let b = (bank-valid f n (file-valid ed f g.file).banks g.below).1 in
        let a : entry_step (part f (bank_place f n + 34) (entry_count f (bank_place f n) * 2)) i ≡ Ok (record { channel = c; next = j }) = rw e at h in
        entry_of f (bank_place f n + 34) (entry_count f (bank_place f n)) i c j
        (λ k l. entry-valid f (entry_count f (bank_place f n)) (bank_place f n + 34) k b l) a
    by (Err e') e =
        let d : ◌≡◌ {A = Result EntryStep Refusal} (Err e') (Ok (record { channel = c; next = j })) = rw e at h in
        let z : ◌≡◌ {A = ℕ} 0 1 = cc in
        absurd (omega arith)

-- ---- a channel names nobody or a contact of its own mode

-- the contact that a channel's info names; FM has none
abbrev pub info_contact : Info → Option ℕ
info_contact (Fm i) = None
info_contact (Dmr i) = i.contact
info_contact (M17 i) = i.contact

-- the bytes' index and mode are those of the value
mode_of : (s : List ℕ) → get_or s 0 0 ≤ 2 → mode_number (info_of s) ≡ get_or s 0 0
unfolding mode_number info_of
mode_of s h =
    by_mode (mode_number (info_of s) ≡ get_or s 0 0) (get_or s 0 0)
    (λ e. rw e)
    (λ e. rw e)
    (λ l. let e : get_or s 0 0 ≡ 2 = omega arith in rw e)

contact-of : (s : List ℕ) → get_or s 0 0 ≤ 2 → 90 ≤ length s → info_contact (info_of s) ≡ named_contact s
unfolding info_of dmr_of m17_of
contact-of s h l =
    by_mode (info_contact (info_of s) ≡ named_contact s) (get_or s 0 0)
    (λ e. rw (fm-names-none s e, e))
    (λ e. rw (dmr-named s e (omega arith), e))
    (λ m. let e : get_or s 0 0 ≡ 2 = omega arith in rw (m17-named s e l, e))

nobody : (f s : List ℕ) → get_or s 0 0 ≡ 0 → names_contact f (get_or s 0 0) (named_contact s) ≡ true
unfolding names_contact
nobody f s e = rw (fm-names-none s e)

named : (f s : List ℕ) (p : ℕ) → channel_rule s p (index_ok f s) ≡ Valid → names_contact f (get_or s 0 0) (named_contact s) ≡ true
unfolding index_ok
named f s p h =
    by_mode (names_contact f (get_or s 0 0) (named_contact s) ≡ true) (get_or s 0 0)
    (λ e. nobody f s e)
    (λ e. valid-named s p (names_contact f (get_or s 0 0) (named_contact s)) h (omega arith))
    (λ l. valid-named s p (names_contact f (get_or s 0 0) (named_contact s)) h (omega arith))

pub channel-names : (ed : Edition) (f : List ℕ) (n : ℕ) (c : Channel) → file_rule ed f ≡ Valid → n < channel_count f → channel_read ed f n ≡ Ok c
    → names_contact f (mode_number c.info) (info_contact c.info) ≡ true
unfolding channel_of
channel-names ed f n c h g r =
    let t = channel-there f n (file-valid ed f h).channels g in
    let s = part f (channel_place f n) 90 in
    let m = (valid-channel s (channel_place f n) (index_ok f s) t).mode in
    let l = valid-length s (channel_place f n) (index_ok f s) t in
    let e : ◌≡◌ {A = Result Channel Refusal} (Ok (channel_of s)) (Ok c) = sym (channel-reads ed f n h g) ∙ r in
    let is : channel_of s ≡ c = cc in
    rw (← is, mode_of s m, contact-of s m l) (named f s (channel_place f n) t)
