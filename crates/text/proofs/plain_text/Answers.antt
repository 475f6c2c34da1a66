-- The closure is the definition's test of a byte.
use Rattle.std.proofs.Common.{◌≡◌, ℕ, List, [], ◌∷◌, refl, ap, ◌∙◌, ◌&&◌, rules}
use Rattle.std.proofs.lemmas.Iterator.{YieldsList-from_slice}
use Rattle.std.proofs.lemmas.Iterator.Search.{all_from_yields_List}
use Rattle.std.specs.List.{list_all}
use borrow.Author.Tests.{tests}
use Rattle.text.specs.Text.{plain_text, printable}
use Rattle.text.proofs.plain_text.Goals as goal

all_printable : (s : List ℕ) → list_all printable s ≡ plain_text s
unfolding plain_text
all_printable [] = refl
all_printable (b ∷ s) = ap (λ t. printable b && t) (all_printable s)

pub returns : goal.returns
unfolding printable
returns c =
    all_from_yields_List printable _ _ _ c.all.ensures.ran (YieldsList-from_slice c.args.s.now cc) (λ x b q k. search (rules, tests)) ∙ all_printable _
