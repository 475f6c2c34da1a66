-- What the steps of an encoding know of a text. No promise to a caller rests on these.
use Rattle.std.specs.Prelude.{ℕ, ◌≤◌, ◌<◌, List, length}

abbrev pub OneToNine : List ℕ → Type 0
OneToNine s = (0 < length s) × (length s ≤ 9)
