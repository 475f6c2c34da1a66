-- How one index or offset follows an edit.
use Rattle.std.specs.Prelude.{ℕ, ◌+◌, ◌-◌}
use Rattle.model.specs.Edits.{raised, lowered}
use Rattle.renumber.specs.declared.shift.Shift.{Shift}
use Rattle.renumber.specs.declared.shift.Shift.TheVariants.{Raise, Lower}
use Rattle.renumber.specs.declared.shift.Growth.{Growth}
use Rattle.renumber.specs.declared.shift.Growth.TheVariants.{More, Fewer}

-- an index, after an insertion or a removal at i
unfoldable pub shift_of : Shift → ℕ → ℕ
shift_of (Raise i) x = raised i x
shift_of (Lower i) x = lowered i x

-- an offset, where the banks before it take so many bytes more or fewer
unfoldable pub growth_of : Growth → ℕ → ℕ
growth_of (More n) x = x + n
growth_of (Fewer n) x = x - n
