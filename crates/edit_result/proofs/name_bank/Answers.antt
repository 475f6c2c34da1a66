-- The name, where it will stand.
use Rattle.edit_result.proofs.name_bank.Goals as goal

pub returns : goal.returns
returns c = rw (c.unless.ensures, c.bank_place.ensures.0, c.text_ok.ensures)
