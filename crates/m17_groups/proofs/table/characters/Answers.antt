-- The rule of the table, by a test that is computed at its 40 entries.
use Rattle.m17.specs.Address.{char_of}
use Rattle.fields.proofs.TableLaws.{every, table-right}
use Rattle.m17_groups.proofs.table.characters.Goals as goal

pub returns : goal.returns
unfolding every char_of
returns c = table-right char_of 0 40 tt
