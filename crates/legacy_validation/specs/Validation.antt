-- What validation by the legacy reading answers (document 02, [5]): as validation does, the three counts or the refusal.
use Rattle.std.specs.Prelude.{ℕ, List}
use Rattle.m17.specs.declared.Edition.{Edition}
use Rattle.validation.specs.Validation.{validated_by}
use Rattle.legacy.specs.Reading.{legacy_file_rule}
use Rattle.std.specs.Prelude.{Result}
use Rattle.format.specs.declared.refusals.Refusal.{Refusal}
use Rattle.layout.specs.declared.Counts.{Counts}

unfoldable pub legacy_validation : Edition → List ℕ → Result Counts Refusal
legacy_validation e f = validated_by (legacy_file_rule e f) f
