-- The invariant: where no bit differs so far, the first k bytes agree.
use mathlib.Core.Path.{◌≡◌}
use Rattle.fields.specs.Bytes.{part}
use Rattle.affixes.proofs.same32.Given as goal

abbrev pub invariant-loop-k : goal.invariant-loop-k
invariant-loop-k l = l.differ ≡ 0 → part l.a l.i l.k ≡ part l.b l.j l.k
