-- Bank entries (document 01, "The file"): a bank's entry bytes hold one channel index per two bytes. They are read one at a time, each
-- call going on from the last; past the last entry there is no such place.
use Rattle.std.specs.Prelude.{ℕ, ◌+◌, ◌*◌, ◌/◌, cond, List, length, ltb, Ok, Result}
use Rattle.fields.specs.Bytes.{num}
use Rattle.entries.specs.declared.EntryStep.{EntryStep}
use Rattle.format.specs.declared.refusals.Reason.TheVariants as reason
use Rattle.format.specs.declared.refusals.Refusal.{Refusal}
use Rattle.fields.specs.Rule.{Refused}

-- entry i of a bank's entry bytes, with the place of the next
unfoldable pub entry_step : List ℕ → ℕ → Result EntryStep Refusal
entry_step s i = cond (ltb i (length s / 2)) (Ok (record { channel = num s (i * 2) 2; next = i + 1 })) (Refused reason.NoPlace 0)
