-- The rule of the table, by a test that is computed at its 59 entries.
use Rattle.m17.specs.Address.{digit_of, within}
use Rattle.fields.proofs.TableLaws.{every, table-right}
use Rattle.m17_encoder.proofs.table.digits.Goals as goal

pub returns : goal.returns
unfolding every digit_of within
returns c = table-right digit_of 32 59 tt
