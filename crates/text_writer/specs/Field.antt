-- A text written as its field of 32 bytes (document 01, "The file"): a buffer that is too short, then the text's own rule. An addition to document 01, which has writers of
-- whole records only (docs/DECISIONS.md).
use Rattle.std.specs.Prelude.{ℕ, List, length, leb}
use Rattle.text.specs.Text.{given_ok, padded}
use Rattle.fields.specs.Rule.{◌then◌, unless, written, Validity}
use Rattle.format.specs.declared.refusals.Reason.TheVariants as reason

unfoldable pub text_write_rule : ℕ → List ℕ → Validity
text_write_rule size text =
    unless (leb 32 size) reason.ShortBuffer 0
    then unless (given_ok text) reason.Text 0

-- the later contents of the buffer
unfoldable pub text_written : List ℕ → List ℕ → List ℕ
text_written out text = written (text_write_rule (length out) text) out (padded text)
