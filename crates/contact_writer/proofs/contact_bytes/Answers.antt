-- The name over zeros, then the info behind it.
use native.Mathlib.Omega.{arith}
use Rattle.fields.specs.Bytes.{zeros}
use Rattle.contact.specs.Contact.{contact_bytes}
use Rattle.text.proofs.Laws.{given_ok-length}
use Rattle.contact.proofs.Laws.{named-length, named-rest, named-name}
use Rattle.contact_writer.proofs.contact_bytes.Goals as goal

pub put-requires : goal.put-requires
put-requires c = omega (arith, given_ok-length _ c.requires.0)

pub put_info-requires : goal.put_info-requires
unfolding zeros
put_info-requires c =
    let p = c in
    let e = p in (
      named-length _ e.args.name.now e.requires.0 p.put.ensures,
      (named-rest _ e.args.name.now e.requires.0 p.put.ensures, e.requires.1),
    )

pub returns : goal.returns
unfolding zeros contact_bytes
returns c =
    let p = c in
    let e = p in
    rw (c.put_info.ensures, named-name _ e.args.name.now e.requires.0 p.put.ensures)
