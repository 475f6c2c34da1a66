-- A bank stands where its offset leads; behind the last one the file ends.
use Rattle.model.proofs.PlaceLaws.{bank-read, bank-last}
use native.Mathlib.Omega.{arith}
use Rattle.model.proofs.places.bank_place.Goals as goal

pub returns-then-i-bank_count : goal.returns-then-i-bank_count
returns-then-i-bank_count c =
    let o = c in
    let b = o in
    let s = b in
    let r = bank-read _ _ _ _ s.requires.0 (omega arith) o.offset_place.ensures.0 c.offset_target.ensures.0 in
    (r.0, (r.1, omega arith))

pub returns : goal.returns
returns c =
    let s = c in
    bank-last _ _ s.requires.0 (omega arith)
