-- The test of a whole channel, of the bytes at p.
use mathlib.Core.Path.{◌≡◌, ◌∙◌}
use Prim.Native.Nat.{◌+◌, ◌-◌}
use native.Mathlib.Omega.{arith}
use Rattle.fields.specs.Bytes.{part}
use Rattle.file_rule.proofs.Laws.{index-by-bytes}
use Rattle.file_channels.proofs.whole.channel_valid.Goals as goal

pub returns : goal.returns
returns c =
    let p = c.args.p in
    let e : p + 90 - p ≡ 90 = omega arith in
    let f = c.args.f.now in
    c.is_valid.ensures p ∙ rw (c.index_valid.ensures, e, ← index-by-bytes f (part f p 90) p)
