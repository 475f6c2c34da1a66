-- What is promised of a file read by the two editions of addresses (document 02, [10]), as types; proofs/Editions.antt proves them.
use Rattle.std.specs.Prelude.{ℕ, ◌<◌, ◌≡◌, true, List, get_or}
use Rattle.fields.specs.Bytes.{part, big}
use Rattle.m17.specs.declared.Edition.TheVariants.{Older, Newer}
use Rattle.m17.specs.Address.{address_ok}
use Rattle.layout.specs.Places.{contact_count, contact_place}
use Rattle.file_rule.specs.File.{file_rule}
use Rattle.validation.specs.Validation.{validation}
use Rattle.codeplug.specs.Read.{header_read, contact_read, channel_read, bank_read, entries_read, entry_read}
use Rattle.codeplug.specs.Prevalidated.{contact_prevalidated}
use Rattle.format.specs.declared.refusals.Reason.TheVariants as reason
use Rattle.fields.specs.Rule.{Valid, Refused}

-- every reader that validates the file answers by the newer what it answers by the older
pub record ReadsAlike (f : List ℕ) : Type 0 where
  pub validated : validation Newer f ≡ validation Older f
  pub header : header_read Newer f ≡ header_read Older f
  pub contact : (n : ℕ) → contact_read Newer f n ≡ contact_read Older f n
  pub channel : (n : ℕ) → channel_read Newer f n ≡ channel_read Older f n
  pub bank : (n : ℕ) → bank_read Newer f n ≡ bank_read Older f n
  pub entries : (n : ℕ) → entries_read Newer f n ≡ entries_read Older f n
  pub entry : (n i : ℕ) → entry_read Newer f n i ≡ entry_read Older f n i

-- a file that the older accepts is accepted by the newer, and read alike, without validating it again too (the other readers that do not validate see no address)
abbrev pub OlderInNewer : Type 0
OlderInNewer =
    (f : List ℕ) → file_rule Older f ≡ Valid
    → (file_rule Newer f ≡ Valid) × (ReadsAlike f × ((n : ℕ) → contact_prevalidated Newer f n ≡ contact_prevalidated Older f n))

-- ---- no paper asks for these two; the words of the header rest on them

-- the editions answer a file otherwise only where the older refuses it for an address: any other is answered alike, its refusal too
abbrev pub AlikeUnlessEight : Type 0
AlikeUnlessEight = (f : List ℕ) → ((p : ℕ) → file_rule Older f ≡ Refused reason.Address p → ⊥) → (file_rule Newer f ≡ file_rule Older f) × ReadsAlike f

-- no M17 contact holds an address that the older has not
abbrev pub NoHashAddress : List ℕ → Type 0
NoHashAddress f =
    (n : ℕ) → n < contact_count f → get_or (part f (contact_place n) 39) 32 0 ≡ 2 → address_ok Older (big (part (part f (contact_place n) 39) 33 6)) ≡ true

-- a file that the newer accepts is accepted by the older exactly where it holds no hash address
abbrev pub NewerInOlder : Type 0
NewerInOlder = (f : List ℕ) → file_rule Newer f ≡ Valid → (NoHashAddress f → file_rule Older f ≡ Valid) × (file_rule Older f ≡ Valid → NoHashAddress f)
