-- A record's texts into a lent buffer. Its length is tested first: 25 at 0 where it is shorter than the texts, then the record's own refusal;
-- beside a refusal it stays as lent.
use Rattle.std.specs.Prelude.{◌≡◌, ℕ, cond, List, length, leb, Result, Ok, Err}
use Rattle.format.specs.declared.refusals.Reason.TheVariants as reason
use Rattle.format.specs.declared.refusals.Refusal.{Refusal}
use Rattle.fields.specs.Bytes.{over}
use Rattle.fields.specs.Rule.{Validity, Refused, ◌then◌, unless, written}

-- a writer of texts of so many bytes beside a validity: what it answers, and the buffer after it
abbrev pub TextsPut : ℕ → List ℕ → Validity → List ℕ → Validity → List ℕ → Type 0
TextsPut size texts v lent r after = (r ≡ unless (leb size (length lent)) reason.ShortBuffer 0 then v) × (after ≡ written r lent texts)

-- what a reader answers for a buffer of so many bytes: what it read, where there is room for the texts
abbrev pub unless_short : {T : Type 0} → ℕ → List ℕ → Result T Refusal → Result T Refusal
unless_short size lent read = cond (leb size (length lent)) read (Refused reason.ShortBuffer 0)

-- the buffer after it: the texts of what was read over its beginning, or all as lent
abbrev pub texts_over : {T : Type 0} → (T → List ℕ) → List ℕ → Result T Refusal → List ℕ
texts_over texts lent (Ok x) = over lent 0 (texts x)
texts_over texts lent (Err e) = lent

-- an answer to C and the buffer after it are those of what was read: T is the record, A the answer to C
pub record TextsOut {T A : Type 0} (texts : T → List ℕ) (to_c : Result T Refusal → A) (size : ℕ) (read : Result T Refusal)
    (lent : List ℕ) (r : A) (after : List ℕ) : Type 0 where
  pub answered : r ≡ to_c (unless_short size lent read)
  pub buffer-is : after ≡ texts_over texts lent (unless_short size lent read)
