-- An accepted file has the 88 bytes.
use mathlib.Core.Path.{sym, ◌∙◌}
use Rattle.file_rule.proofs.Laws.{file-header}
use Rattle.codeplug.proofs.read.header_validity.Goals as goal

pub returns : goal.returns
returns c =
    let v = c.validity_of.ensures in
    (v, λ g. file-header _ c.args.f.now (sym v ∙ g))
