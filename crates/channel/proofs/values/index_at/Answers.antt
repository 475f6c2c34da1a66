-- The definition's test on the length.
use Prim.Native.Nat.{◌+◌}
use lib.ListN.{length}
use borrow.Author.Tests.{le-leb, lt-leb}
use native.Mathlib.Omega.{arith}
use Rattle.channel.proofs.values.index_at.Goals as goal

pub returns-then-s-k : goal.returns-then-s-k
returns-then-s-k c =
    let given = c.args in
    rw (lt-leb (given.k + 2) (length given.s.now) (omega arith))

pub returns : goal.returns
returns c =
    let given = c.args in
    rw (
      le-leb (given.k + 2) (length given.s.now) (omega arith),
      c.contact_index_of.ensures,
      c.le16.ensures,
    )
