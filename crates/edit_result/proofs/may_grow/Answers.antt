-- The length after it against the longest file.
use Rattle.edit_result.proofs.may_grow.Goals as goal

pub returns : goal.returns
returns c =
    rw (c.unless.ensures, c.growth-n.ensures.0)
