-- The mode chooses the values.
use mathlib.Core.Path.{◌≡◌}
use native.Mathlib.Omega.{arith}
use borrow.Author.Tests.{ne_eqb}
use lib.ListN.{get_or}
use Rattle.contact.specs.Contact.{info_of}
use Rattle.contact_reader.proofs.info_of.Goals as goal

pub returns-then-byte_at-eq-DMR : goal.returns-then-byte_at-eq-DMR
unfolding info_of
returns-then-byte_at-eq-DMR c =
    let m = c.byte_at in
    let e = c in
    let one : get_or e.args.s.now 32 0 ≡ 1 = omega (arith, m.ensures) in
    rw (c.from.ensures, c.byte_at-then-byte_at-eq-DMR.ensures, c.le32.ensures, one)

pub returns-else-byte_at-eq-DMR : goal.returns-else-byte_at-eq-DMR
unfolding info_of
returns-else-byte_at-eq-DMR c =
    let e = c in
    let m = c.byte_at in
    rw (c.address_for.ensures, c.be48.ensures.0, ne_eqb (get_or e.args.s.now 32 0) 1 (omega (arith, m.ensures)))
