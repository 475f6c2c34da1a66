-- An outcome taken apart.
use mathlib.Core.Path.{◌≡◌, ap, ◌∙◌}
use Prim.Native.Nat.{ℕ}
use mathlib.Core.List.{List}
use Rattle.journal.specs.Machine.{State, Outcome}
use Rattle.preconditions.specs.Calls.{outcome_of}
use Rattle.capi_numbers.specs.Numbers.{edit_answer}
use Rattle.capi.specs.Calls.{Called}
use Rattle.capi_numbers.specs.declared.EditAnswer.{EditAnswer}
use Rattle.std.specs.Prelude.{Result}
use Rattle.format.specs.declared.refusals.Refusal.{Refusal}
use Rattle.journal.specs.declared.answer.Done.{Done}

pub called : (a : (Result Done Refusal)) (room history : List ℕ) (o : Outcome) (m : State) (r : EditAnswer) → outcome_of a room history ≡ o
    → r ≡ edit_answer a m.length-in-room m.length-in-history → Called o m r room history
called a room history o m r e f =
    record {
      answered = f ∙ ap (λ (p : Outcome). edit_answer p.answer m.length-in-room m.length-in-history) e;
      room-is = ap (λ (p : Outcome). p.room) e;
      history-is = ap (λ (p : Outcome). p.history) e;
    }
