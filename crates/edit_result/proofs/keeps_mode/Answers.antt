-- By whether the channel names the contact.
use Rattle.edit_result.proofs.ValidityLaws.{keeps-named, keeps-other}
use Rattle.edit_result.proofs.keeps_mode.Goals as goal

pub returns-then-is_index : goal.returns-then-is_index
returns-then-is_index c =
    let x = c in
    let n = x in
    let b = n in
    keeps-named _ _ _ _ _ _ _ _ b.record_bytes-s.ensures b.byte_at-m.ensures n.named_contact.ensures x.is_index.ensures _ _
    c.if-is_index.true c.contact_index_place.ensures.0 c.unless.ensures

pub returns : goal.returns
returns c =
    let x = c in
    let n = x in
    let b = n in
    keeps-other _ _ _ _ _ _ _ _ b.record_bytes-s.ensures b.byte_at-m.ensures n.named_contact.ensures x.is_index.ensures c.if-is_index.false
