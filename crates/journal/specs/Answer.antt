-- What an edit or an undo answers.
use Rattle.std.specs.Prelude.{ℕ, Result, Ok}
use Rattle.format.specs.declared.refusals.Refusal.{Refusal}
use Rattle.journal.specs.declared.answer.Done.{Done}

-- both new lengths and the number of entries left
abbrev pub done_with : ℕ → ℕ → ℕ → Result Done Refusal
done_with len used entries = Ok (record { len = len; used = used; entries = entries })
