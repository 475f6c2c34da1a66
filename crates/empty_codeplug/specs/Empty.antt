-- The empty codeplug (document 01, "The file"): a header of 88 bytes and nothing behind it. That it can be written is an addition to document 01
-- (docs/DECISIONS.md).
use Rattle.std.specs.Prelude.{ℕ, List, ◌∷◌, length, leb}
use Rattle.fields.specs.Bytes.{zeros}
use Rattle.fields.specs.Rule.{unless, written, Validity}
use Rattle.format.specs.declared.refusals.Reason.TheVariants as reason

-- the magic number and version 1; author, description, timestamp and the three counts are zeros
unfoldable pub empty_codeplug : List ℕ
empty_codeplug = 0x52 ∷ 0x54 ∷ 0x58 ∷ 0x43 ∷ 0 ∷ 0 ∷ 0 ∷ 0 ∷ 1 ∷ 0 ∷ zeros 78

unfoldable pub empty_write_rule : ℕ → Validity
empty_write_rule size = unless (leb 88 size) reason.ShortBuffer 0

-- the later contents of the buffer
unfoldable pub empty_written : List ℕ → List ℕ
empty_written out = written (empty_write_rule (length out)) out empty_codeplug
