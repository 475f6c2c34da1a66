-- Bank i stands where its offset leads; past the last bank there are no entries.
use mathlib.Core.Path.{sym}
use Rattle.model.proofs.PlaceLaws.{entries-read, entries_none}
use native.Mathlib.Omega.{arith}
use Rattle.model.proofs.places.entries_in.Goals as goal

pub returns-then-i-bank_count : goal.returns-then-i-bank_count
returns-then-i-bank_count c =
    let e = c in
    let b = e in (
      entries-read _ _ _ _ _ _ b.requires b.bank_count.ensures.0 (omega arith) e.offset_place.ensures.0
          c.offset_target.ensures.0 c.entry_count.ensures.0,
      omega arith,
    )

pub returns : goal.returns
returns c =
    let b = c in
    (sym (entries_none _ _ (omega (arith, b.bank_count.ensures.0))), omega arith)
