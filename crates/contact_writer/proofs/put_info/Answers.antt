-- The bytes lie side by side behind the name; the pad is the zero that was there.
use mathlib.Core.Path.{◌∙◌}
use native.Mathlib.Omega.{arith}
use Rattle.m17.proofs.Laws.{address_number-lt}
use Rattle.contact.proofs.Laws.{m17-writable, dmr-writable, put-m17, put-dmr}
use Rattle.contact_writer.proofs.put_info.Goals as goal

pub put_be48-requires : goal.put_be48-requires
put_be48-requires c =
    let b = c in
    let i = b in
    let e = i in
    (omega arith, rw c.address_number.ensures (address_number-lt _ _ (m17-writable _ _ (rw i.in-M17.is at e.requires.1.1.1))))

pub number_flag_byte-requires : goal.number_flag_byte-requires
number_flag_byte-requires c =
    let i = c in
    let e = i in
    rw c.from.ensures (dmr-writable _ _ (rw i.in-Dmr.is at e.requires.1.1.1))

pub returns-in-M17 : goal.returns-in-M17
returns-in-M17 c =
    let b = c in
    let p = b in
    let i = p in
    let e = i in
    rw i.in-M17.is
    (put-m17 e.args.dst.now p.put_byte.new.dst _ _ _ e.requires.0 p.put_byte.ensures b.put_be48.ensures
    b.address_number.ensures)

pub returns-in-Dmr : goal.returns-in-Dmr
returns-in-Dmr c =
    let b = c in
    let l = b in
    let p = l in
    let i = p in
    let e = i in
    rw i.in-Dmr.is
    (put-dmr e.args.dst.now p.put_byte-in-Dmr.new.dst l.put_le32.new.dst _ _ _ e.requires.0 e.requires.1.0 p.put_byte-in-Dmr.ensures
    l.put_le32.ensures b.put_byte-in-Dmr-2.ensures (b.number_flag_byte.ensures ∙ rw b.from.ensures))
