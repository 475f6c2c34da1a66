-- Six bytes behind two zeros.
use Prim.Native.Nat.{◌+◌, ◌-◌, ◌^◌, ◌<◌}
use mathlib.Core.Path.{◌≡◌}
use mathlib.Core.List.{append-nil}
use lib.ListN.{length}
use native.Mathlib.Omega.{arith}
use Rattle.fields.specs.Bytes.{big, part}
use Rattle.fields.proofs.Laws.{from_be-big, big_lt, bytes-part, length_part}
use Rattle.fields.proofs.numbers.be48.Goals as goal

pub returns : goal.returns
returns c =
    let s = c.args.s.now in
    let k = c.args.k in
    let p = part s k 6 in
    let copied = c.copy_from_slice.ensures in
    let six : k + 6 - k ≡ 6 = omega arith in
    let a = c.copy_from_slice.new.self in
    let whole : c.from_be_bytes.result ≡ big a =
    omega (arith, rw (append-nil a) at c.from_be_bytes.ensures, from_be-big a 5 copied.len)
    in
    let h : c.from_be_bytes.result ≡ big p = rw (copied.after, six) at whole in
    let l : length p ≡ 6 = length_part s k 6 c.requires in
    let g : big p < 256 ^ 6 = rw l at (big_lt p (bytes-part s k 6 (λ i. (c.type_inv.s i).fits))) in
    (h, rw h g)
