-- How the validation of a text goes about it, byte after byte. No promise to a caller rests on these.
use Rattle.std.specs.Prelude.{ℕ, Bool, ◌&&◌, ◌||◌, not, cond, List, eqb}
use Rattle.text.specs.Text.{printable, all_zero, text_ok}

-- whether byte b may not follow prev: it is neither zero nor printable, or it is not zero though prev is
unfoldable pub fault_after : ℕ → ℕ → Bool
fault_after prev b = not (eqb b 0) && (eqb prev 0 || not (printable b))

unfoldable pub step_fault : ℕ → ℕ → ℕ
step_fault prev b = cond (fault_after prev b) 1 0

-- what is still asked of the rest of a field behind prev
unfoldable pub rest_ok : ℕ → List ℕ → Bool
rest_ok prev s = cond (eqb prev 0) (all_zero s) (text_ok s)
