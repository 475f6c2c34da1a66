-- What refuses an edit, in three steps: before its result is read, by reading it, and by the room.
use Prim.Native.Nat.{ℕ}
use mathlib.Core.Path.{◌≡◌, sym, ◌∙◌}
use mathlib.Core.Bool.{true, false, not}
use mathlib.Core.List.{List}
use lib.ListN.{length}
use lib.Dec.{leb, eqb}
use borrow.Author.Tests.{eqb-true, not-true}
use Rattle.fields.specs.Rule.{◌then◌, unless, Validity, Valid}
use Rattle.fields.proofs.Laws.{AllBytes, then-valid, then-assoc, unless-valid}
use Rattle.m17.specs.declared.Edition.{Edition}
use Rattle.file_rule.specs.File.{file_rule}
use Rattle.model.specs.Codeplug.{codeplug_of}
use Rattle.model.specs.declared.Kind.{Kind}
use Rattle.model.specs.Kinds.{record_length}
use Rattle.model.specs.EditRules.{place_ok, count_ok, in_use}
use Rattle.edits.specs.Result.{result}
use Rattle.edits.specs.ResultValidity.{result_rule, result_length}
use Rattle.edits.specs.Editing.{refuses_known}
use Rattle.edits.proofs.ResultLaws.{result-validated}
use Rattle.edit_result.proofs.LengthLaws.{result-long}
use Rattle.edit_result.proofs.ValidityLaws.{first-bad, first_rest}
use Rattle.format.specs.declared.refusals.Reason.TheVariants as reason
use Rattle.format.specs.declared.refusals.Refusal.{Refusal}
use Rattle.std.specs.Prelude.{Err}

-- the four tests before the result is read
abbrev pub early_rule : Kind → ℕ → ℕ → List ℕ → List ℕ → Validity
early_rule k i j r f =
    unless (eqb (length r) (record_length k)) reason.NoEdit 0
    then unless (place_ok k i j (codeplug_of f)) reason.NoPlace 0
    then unless (count_ok k i (codeplug_of f)) reason.Full 0
    then unless (not (in_use k i (codeplug_of f))) reason.InUse 0

-- what an edit has that passes them
pub record Passed (k : Kind) (i j : ℕ) (r f : List ℕ) : Type 0 where
  pub wide : length r ≡ record_length k
  pub place : place_ok k i j (codeplug_of f) ≡ true
  pub count : count_ok k i (codeplug_of f) ≡ true
  pub free : in_use k i (codeplug_of f) ≡ false

four-then : (a b c d e : Validity) → (a then b then c then d) then e ≡ a then b then c then d then e
four-then a b c d e =
    then-assoc a (b then c then d) e ∙ rw (then-assoc b (c then d) e, then-assoc c d e)

module _ (k : Kind) (i j : ℕ) (r f : List ℕ) where
  pub early-passed : (v : Validity) → v ≡ early_rule k i j r f → v ≡ Valid → Passed k i j r f
  early-passed v e g =
      let wide = then-valid _ _ (sym e ∙ g) in
      let place = then-valid _ _ wide.1 in
      let count = then-valid _ _ place.1 in
      record {
        wide = eqb-true _ _ (unless-valid _ _ _ wide.0);
        place = unless-valid _ _ _ place.0;
        count = unless-valid _ _ _ count.0;
        free = not-true _ (unless-valid _ _ _ count.1);
      }

  module _ (room : ℕ) where
    -- the result, read and measured
    abbrev late : (ed : Edition) → Validity
    late ed = file_rule ed (result k i j r f) then unless (leb (length (result k i j r f)) room) reason.NoRoom 0

    in_two : (ed : Edition) → early_rule k i j r f then late ed ≡ refuses_known ed k i j r room f
    unfolding refuses_known
    in_two ed = four-then _ _ _ _ (late ed)

    pub refused-early : (ed : Edition) (v : Validity) (x : Refusal) → v ≡ early_rule k i j r f → v ≡ Err x → v ≡ refuses_known ed k i j r room f
    refused-early ed v x e g = first-bad (early_rule k i j r f) (late ed) v x e g ∙ in_two ed

    module _ (ed : Edition) (v : Validity) (e : v ≡ early_rule k i j r f) (g : v ≡ Valid) (bytes : AllBytes f) (record-bytes : AllBytes r)
        (valid : file_rule ed f ≡ Valid) where
      validated : file_rule ed (result k i j r f) ≡ result_rule ed k i j r f
      validated =
          let a = early-passed v e g in
          result-validated ed k i j r f bytes record-bytes valid a.wide a.place a.count a.free

      pub refused-read : (w : Validity) (x : Refusal) → w ≡ result_rule ed k i j r f → w ≡ Err x → w ≡ refuses_known ed k i j r room f
      refused-read w x d b =
          first_rest (early_rule k i j r f) (late ed) v w e g (first-bad _ _ w x (d ∙ sym validated) b) ∙ in_two ed

      pub refused-room : (w x : Validity) (n : ℕ) → w ≡ result_rule ed k i j r f → w ≡ Valid → n ≡ result_length k i f
          → x ≡ unless (leb n room) reason.NoRoom 0 → x ≡ refuses_known ed k i j r room f
      refused-room w x n d b m u =
          let a = early-passed v e g in
          let l = result-long ed k i j r f bytes record-bytes valid a.wide a.place a.count a.free in
          first_rest (early_rule k i j r f) (late ed) v x e g (first_rest _ _ w x (d ∙ sym validated) b (u ∙ rw (m, l))) ∙ in_two ed
