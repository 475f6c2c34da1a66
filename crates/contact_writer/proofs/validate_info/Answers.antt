-- The kind of info chooses the test.
use Rattle.contact.specs.Contact.{info_write_rule}
use Rattle.contact_writer.proofs.validate_info.Goals as goal

pub returns-in-M17 : goal.returns-in-M17
unfolding info_write_rule
returns-in-M17 c = rw (c.unless.ensures, c.address_valid.ensures, c.in-M17.is)

pub returns-in-Dmr : goal.returns-in-Dmr
unfolding info_write_rule
returns-in-Dmr c =
    rw (
      c.unless-in-Dmr.ensures,
      c.number_flag_valid.ensures,
      c.from.ensures,
      c.in-Dmr.is,
    )
