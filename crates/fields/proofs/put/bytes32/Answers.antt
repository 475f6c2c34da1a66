use Prim.Native.Nat.{◌+◌, ◌-◌}
use mathlib.Core.Path.{◌≡◌, ◌∙◌}
use native.Mathlib.Omega.{arith}
use Rattle.std.specs.Array.{IsWholeChunk}
use Rattle.fields.specs.Bytes.{part}
use Rattle.fields.proofs.put.bytes32.Goals as goal

pub returns : goal.returns
returns c =
    let k = c.args.k in
    let n : k + 32 - k ≡ 32 = omega arith in
    let h : IsWholeChunk (part c.args.s.now k (k + 32 - k)) c.unwrap.result.now 32 = rw c.unwrap.ensures at c.as_array.ensures.cases in
    h.same ∙ rw n
