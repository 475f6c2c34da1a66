-- A plan that makes the file which an edit's rule describes, with any record of the edit's length. No promise to a caller rests on these.
use Rattle.std.specs.Prelude.{ℕ, ◌-◌, ◌≡◌, true, List, length}
use Rattle.fields.specs.Bytes.{little, little_bytes}
use Rattle.model.specs.Codeplug.{codeplug_of}
use Rattle.model.specs.HasLayout.{HasLayout}
use Rattle.model.specs.declared.Kind.{Kind}
use Rattle.model.specs.Kinds.{record_length}
use Rattle.model.specs.EditRules.{place_ok, count_ok}
use Rattle.layout.specs.Places.{bank_count, offset_place}
use Rattle.renumber.specs.declared.shift.Growth.{Growth}
use Rattle.plan.specs.declared.Table.{Table}
use Rattle.plan.specs.declared.Plan.{Plan}
use Rattle.plan.specs.Plan.{planned}
use Rattle.plan.specs.Fits.{Fits}
use Rattle.edits.specs.Result.{result}

-- a file laid out as an accepted one, with the edit's places, whose count may grow
abbrev pub Ready : Kind → ℕ → ℕ → List ℕ → Type 0
Ready k i j f = HasLayout f × ((place_ok k i j (codeplug_of f) ≡ true) × (count_ok k i (codeplug_of f) ≡ true))

-- (a record of bytes is its own number's bytes)
unfoldable pub Makes : Plan → Kind → ℕ → ℕ → List ℕ → Type 0
Makes p k i j f =
    (r : List ℕ) → length r ≡ record_length k → little_bytes (length r) (little r) ≡ r
    → (planned p r f ≡ result k i j r f) × Fits p r f

-- the offsets of bank i and those behind it
abbrev pub table_from : List ℕ → ℕ → Growth → Table
table_from f i g = record { start = offset_place f i; many = bank_count f - i; growth = g }
