-- A text written as its field, and the empty codeplug: a refusal, and the buffer after it.
use Rattle.std.specs.Prelude.{◌≡◌, ℕ, List, length}
use Rattle.text_writer.specs.Field.{text_write_rule, text_written}
use Rattle.empty_codeplug.specs.Empty.{empty_write_rule, empty_written}
use Rattle.capi_numbers.specs.Numbers.{refusal_of}
use Rattle.capi_numbers.specs.declared.RefusalAnswer.{RefusalAnswer}

abbrev pub TextFromC : List ℕ → List ℕ → RefusalAnswer → List ℕ → Type 0
TextFromC out text r after = (r ≡ refusal_of (text_write_rule (length out) text)) × (after ≡ text_written out text)

abbrev pub EmptyToC : List ℕ → RefusalAnswer → List ℕ → Type 0
EmptyToC out r after = (r ≡ refusal_of (empty_write_rule (length out))) × (after ≡ empty_written out)
