-- How many entries a history holds, as numbers: 31 where it is not whole entries.
use Rattle.std.specs.Prelude.{ℕ, Option, Some, None}
use Rattle.format.specs.declared.refusals.Reason.TheVariants as reason
use Rattle.capi_numbers.specs.Numbers.{refused, refused_by}
use Rattle.capi_numbers.specs.declared.history.HistoryAnswer.{HistoryAnswer}

abbrev pub history_answer : Option ℕ → HistoryAnswer
history_answer (Some n) = record { refusal = refused 0 0; entries = n }
history_answer None = record { refusal = refused_by (record { reason = reason.BadHistory; place = 0 }); entries = 0 }
