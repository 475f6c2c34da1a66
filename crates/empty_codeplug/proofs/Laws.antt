-- How long the empty codeplug is, and what room its writer accepts.
use Prim.Native.Nat.{ℕ, ◌≤◌}
use mathlib.Core.Path.{◌≡◌, refl}
use borrow.Author.Tests.{leb-true}
use lib.Dec.{leb}
use lib.ListN.{length}
use Rattle.fields.specs.Bytes.{zeros}
use Rattle.fields.specs.Rule.{Valid, unless}
use Rattle.fields.proofs.Laws.{unless-valid}
use Rattle.format.specs.declared.refusals.Reason.TheVariants as reason
use Rattle.empty_codeplug.specs.Empty.{empty_codeplug}

pub length_empty : length empty_codeplug ≡ 88
unfolding empty_codeplug zeros
length_empty = refl

pub rule_room : (size : ℕ) → unless (leb 88 size) reason.ShortBuffer 0 ≡ Valid → 88 ≤ size
rule_room size h = leb-true 88 size (unless-valid _ _ _ h)
