-- How the code goes about it: a change's place and lengths, from how much agrees behind it. No promise to a caller rests on these.
use Rattle.std.specs.Prelude.{ℕ, ◌+◌, ◌-◌, ◌/◌, cond, List, length, get_or, eqb}
use Rattle.journal.specs.declared.recording.Span.{Span}
use Rattle.plan.specs.declared.Counted.{Counted}

-- a change from p on, with `tail` bytes that agree behind it in files of these lengths
abbrev pub span_from : ℕ → ℕ → ℕ → ℕ → Span
span_from p tail old new = record { place = p; put = new - (p + tail); taken = old - (p + tail) }

-- what agrees where the index at l is the last that moves, to x: its high byte may
abbrev pub apart_suffix : List ℕ → ℕ → ℕ → ℕ
apart_suffix f l x = length f - (l + 2) + cond (eqb (get_or f (l + 1) 0) (x / 256)) 1 0

abbrev pub apart_span : Counted → List ℕ → List ℕ → ℕ → ℕ → Span
apart_span c r f l x = span_from c.counter (apart_suffix f l x) (length f) (length f - c.gone + length r)
