-- What the edits of a byte list are, and the calls on it. An edit is anything that has a result and refusals of its own.
use Rattle.std.specs.Prelude.{ℕ, List}
use Rattle.fields.specs.Rule.{Validity}

-- which files are accepted; an edit's own refusals of a file, its result's among them, in a room of so many bytes; its result
pub record EditSystem : Type 1 where
  pub Edit : Type 0
  pub accepts : List ℕ → Validity
  pub refuses : Edit → ℕ → List ℕ → Validity
  pub applied : Edit → List ℕ → List ℕ

pub data Call (S : EditSystem) : Type 0 where
  edit : S.Edit → Call S
  undo : Call S
