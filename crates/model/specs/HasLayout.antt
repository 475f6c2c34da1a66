-- A file's layout, as far as an edit's places and plan need it: every accepted file has it (`has-layout` in edits, proofs/AcceptedCodeplug.antt). What its contacts and
-- channels hold is not asked. No promise to a caller rests on it.
use Rattle.std.specs.Prelude.{ℕ, ◌^◌, ◌≤◌, ◌<◌, ◌≡◌, List, length}
use Rattle.fields.specs.Bytes.{AllBytes}
use Rattle.layout.specs.Places.{banks_place}
use Rattle.layout.specs.Banks.{banks_rule}
use Rattle.fields.specs.Rule.{Valid}

pub record HasLayout (f : List ℕ) : Type 0 where
  pub bytes : AllBytes f
  pub header : 88 ≤ length f
  pub table : banks_place f ≤ length f
  pub banks : banks_rule f ≡ Valid
  pub short : length f < 2 ^ 32
