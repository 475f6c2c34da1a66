-- The header, 88 bytes (document 01, "The file").
use Rattle.std.specs.Prelude.{ℕ, List, eqb}
use Rattle.fields.specs.Bytes.{part, num}
use Rattle.text.specs.Text.{text_ok}
use Rattle.fields.specs.Rule.{◌then◌, field, inside}
use Rattle.format.specs.declared.refusals.Reason.TheVariants as reason
use Rattle.fields.specs.Rule.{Validity}

-- magic 52 54 58 43 00 00 00 00, version 1, author, description
unfoldable pub identity_rule : List ℕ → Validity
identity_rule f =
    field f 0 0 8 reason.Magic (eqb (num f 0 8) 0x43585452)
    then field f 0 8 2 reason.Version (eqb (num f 8 2) 1)
    then field f 0 10 32 reason.Text (text_ok (part f 10 32))
    then field f 0 42 32 reason.Text (text_ok (part f 42 32))

-- then the timestamp and the three counts, any
unfoldable pub header_rule : List ℕ → Validity
header_rule f =
    identity_rule f
    then inside f 0 74 8
    then inside f 0 82 2
    then inside f 0 84 2
    then inside f 0 86 2
