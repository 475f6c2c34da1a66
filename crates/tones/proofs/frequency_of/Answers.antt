-- The entry that `get` lends is the definition's, and the table of the code is that of the definition.
use Rattle.std.proofs.Common.{◌≡◌, ◌∙◌, sym, refl, ℕ, List, Option, Some, None, Bor}
use Rattle.std.proofs.lemmas.Option.{slice_get_past, slice_get_read}
use Rattle.std.specs.List.{slice_get}
use Rattle.std.specs.Option.{option_copied}
use Rattle.std.specs.Slice.{IsItemAt}
use Rattle.tones.specs.Tone.{frequency_of, tone_table}
use Rattle.tones.proofs.frequency_of.Goals as goal

copied_from_item : (s : List ℕ) (i : ℕ) (r : Option (Bor ℕ)) → IsItemAt s i r → option_copied r ≡ slice_get s i
copied_from_item s i None h = sym (slice_get_past s i h.3)
copied_from_item s i (Some x) h = sym (slice_get_read s _ i x.now refl h.3.0 h.1)

pub returns : goal.returns
unfolding frequency_of tone_table
returns c = c.copied.ensures ∙ copied_from_item tone_table _ _ c.get.ensures.lookup
