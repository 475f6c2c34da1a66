-- The bank is there.
use Prim.Native.Nat.{◌<◌}
use Rattle.layout.specs.Places.{bank_count}
use Rattle.edit_plan.proofs.PlanLaws.{rename-bank-there, rename-bank}
use native.Mathlib.Omega.{arith}
use Rattle.edit_plan.proofs.rename_bank.Goals as goal
use Rattle.edit_plan.proofs.rename_bank.Goals.{After-shared_slice_known-1}

there : (c : After-shared_slice_known-1)
    → (c.args.i < bank_count c.args.f.now) × (bank_count c.args.f.now < 65536)
there c = rename-bank-there c.args.f.now (λ n. (c.type_inv.f n).fits) c.args.i 0 c.requires

pub bank_place-requires : goal.bank_place-requires
bank_place-requires c = (c.requires.0, omega (arith, there c))

pub returns : goal.returns
returns c = let s = c in rename-bank _ (λ n. (s.type_inv.f n).fits) _ _ s.requires c.bank_place.ensures.0
