-- A text with no hash sign is all to write; of one with a hash sign, the text behind it.
use Rattle.m17_decoder.proofs.WriteLaws.{begun-plain, begun-hash}
use Rattle.m17_decoder.proofs.begin.Goals as goal

pub returns-then-n-le-LAST_PLAIN : goal.returns-then-n-le-LAST_PLAIN
returns-then-n-le-LAST_PLAIN c = begun-plain _ _ c.requires c.if-n-le-LAST_PLAIN.true

pub returns : goal.returns
returns c = begun-hash _ _ c.requires c.if-n-le-LAST_PLAIN.false
