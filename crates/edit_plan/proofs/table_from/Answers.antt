-- The table as the callees tell it.
use Rattle.edit_plan.proofs.table_from.Goals as goal

pub returns : goal.returns
returns c = rw (c.offset_place-start.ensures.0, c.bank_count.ensures.0)
