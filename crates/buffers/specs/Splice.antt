-- A cut made in a buffer d that holds a content of len bytes and then spare ones: what lies behind moves up or down, zeros from the new
-- length up to the old. No promise to a caller rests on this.
use Rattle.std.specs.Prelude.{ℕ, ◌+◌, ◌-◌, List, ◌++◌, length}
use Rattle.fields.specs.Bytes.{part, over, zeros}

unfoldable pub spliced : List ℕ → ℕ → ℕ → ℕ → List ℕ → List ℕ
spliced d len p k s = over d p (s ++ (part d (p + k) (len - (p + k)) ++ zeros (k - length s)))
