-- What validation answers (document 01, "The refusals, by number"): the three counts, or the refusal.
use Rattle.std.specs.Prelude.{ℕ, List}
use Rattle.m17.specs.declared.Edition.{Edition}
use Rattle.layout.specs.Places.{counts_of}
use Rattle.file_rule.specs.File.{file_rule}
use Rattle.std.specs.Prelude.{Ok, Err, Result}
use Rattle.format.specs.declared.refusals.Refusal.{Refusal}
use Rattle.layout.specs.declared.Counts.{Counts}
use Rattle.fields.specs.Rule.{Validity}

unfoldable pub validated_by : Validity → List ℕ → Result Counts Refusal
validated_by (Ok u) f = Ok (counts_of f)
validated_by (Err e) f = Err e

unfoldable pub validation : Edition → List ℕ → Result Counts Refusal
validation e f = validated_by (file_rule e f) f
