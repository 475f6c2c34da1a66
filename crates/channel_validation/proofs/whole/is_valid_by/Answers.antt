-- A chain is valid where all its parts are. All of the record's 90 bytes are lent on.
use mathlib.Core.Path.{◌≡◌}
use native.Mathlib.Omega.{arith}
use lib.ListN.{take}
use lib.Seq.{take_all}
use Rattle.fields.proofs.Laws.{valid-both}
use Rattle.channel_validation.proofs.whole.is_valid_by.Goals as goal

pub returns : goal.returns
returns c base =
    let s = c.args.s.now in
    let all : take 90 s ≡ s = take_all 90 s (omega arith) in
    rw (
      c.info_valid.ensures base,
      c.location_valid-location.ensures base,
      c.texts_valid-texts.ensures base,
      c.head_valid-head.ensures base,
      all,
    )
    (simp valid-both)
