-- A file read by the two editions of addresses (specs/Editions.antt).
use Prim.Native.Nat.{ℕ}
use mathlib.Core.Path.{◌≡◌, sym, ◌∙◌}
use mathlib.Core.Logic.{⊎_elim}
use mathlib.Core.List.{List}
use native.Mathlib.Omega.{arith}
use Rattle.m17.specs.declared.Edition.TheVariants.{Older, Newer}
use Rattle.file_rule.specs.File.{file_rule}
use Rattle.file_rule.proofs.EditionLaws.{file-either, file-older, older-plain}
use Rattle.validation.specs.Validation.{validation}
use Rattle.codeplug.specs.Read.{header_read, place_rule, contact_read, channel_read, bank_read, entries_read, entry_read}
use Rattle.codeplug.specs.Editions.{ReadsAlike, OlderInNewer, AlikeUnlessEight, NewerInOlder}
use Rattle.codeplug.proofs.Prevalidated.{contact-prevalidated}
use Rattle.fields.specs.Rule.{Validity, Valid, Refused}
use Rattle.format.specs.declared.refusals.Reason.{Reason}
use Rattle.format.specs.declared.refusals.Reason.TheVariants as reason

-- the readers know the edition by the file's validity alone
reads-alike : (f : List ℕ) → file_rule Newer f ≡ file_rule Older f → ReadsAlike f
unfolding validation header_read place_rule contact_read channel_read bank_read entries_read entry_read
reads-alike f e =
    record {
      validated = rw e;
      header = rw e;
      contact = λ n. rw e;
      channel = λ n. rw e;
      bank = λ n. rw e;
      entries = λ n. rw e;
      entry = λ n i. rw e;
    }

pub alike-unless-eight : AlikeUnlessEight
alike-unless-eight f other =
    let e : file_rule Newer f ≡ file_rule Older f = ⊎_elim (λ g. sym g) (λ g. absurd (other g.0 g.1)) (file-either f) in
    (e, reads-alike f e)

valid-not-refused : (v : Validity) (n : Reason) (p : ℕ) → v ≡ Valid → v ≡ Refused n p → ⊥
valid-not-refused v n p g h = let z : ◌≡◌ {A = ℕ} 0 1 = cc in omega arith

pub older-in-newer : OlderInNewer
older-in-newer f valid =
    let a = alike-unless-eight f (λ p. valid-not-refused (file_rule Older f) reason.Address p valid) in
    let newer : file_rule Newer f ≡ Valid = a.0 ∙ valid in
    (newer, (a.1, λ n. contact-prevalidated Newer f n newer ∙ a.1.contact n ∙ sym (contact-prevalidated Older f n valid)))

pub newer-in-older : NewerInOlder
newer-in-older f valid = ((λ plain. file-older f plain valid), older-plain f)
