-- Bytes of a buffer rotated, all others as they were: how an undo goes about it. No promise to a caller rests on these.
use Rattle.std.specs.Prelude.{ℕ, ◌+◌, ◌-◌, List, ◌++◌}
use Rattle.fields.specs.Bytes.{part, over}

-- of the n bytes at k, the first m behind the others
unfoldable pub rotated : List ℕ → ℕ → ℕ → ℕ → List ℕ
rotated d k n m = over d k (part d (k + m) (n - m) ++ part d k m)
