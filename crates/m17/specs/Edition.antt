-- An edition by its number, as C and the corpora have it, so that every number has an answer: 1 is the newer, every other number the older.
use Rattle.std.specs.Prelude.{ℕ, cond, eqb}
use Rattle.m17.specs.declared.Edition.{Edition}
use Rattle.m17.specs.declared.Edition.TheVariants.{Older, Newer}

unfoldable pub edition_of : ℕ → Edition
edition_of n = cond (eqb n 1) Newer Older
