-- The file after an edit (document 01, "The twelve edits").
use Rattle.std.specs.Prelude.{ℕ, List}
use Rattle.model.specs.Codeplug.{codeplug_of, codeplug_bytes}
use Rattle.model.specs.Edits.{edited}
use Rattle.model.specs.declared.Kind.{Kind}

-- the file that an edit's rule describes
unfoldable pub result : Kind → ℕ → ℕ → List ℕ → List ℕ → List ℕ
result k i j r f = codeplug_bytes (edited k i j r (codeplug_of f))
