-- The count may grow, so the new one fits.
use Prim.Native.Nat.{◌≤◌, ◌<◌}
use Rattle.layout.specs.Places.{channel_count}
use Rattle.edit_plan.proofs.PlanLaws.{insert-channel-there, insert-channel}
use native.Mathlib.Omega.{arith}
use Rattle.edit_plan.proofs.insert_channel.Goals as goal
use Rattle.edit_plan.proofs.insert_channel.Goals.{After-shared_slice_known-1}

there : (c : After-shared_slice_known-1)
    → (c.args.i ≤ channel_count c.args.f.now) × (channel_count c.args.f.now < 65535)
there c = insert-channel-there c.args.f.now (λ n. (c.type_inv.f n).fits) c.args.i 0 c.requires

pub overflow_cast-count : goal.overflow_cast-count
overflow_cast-count c = record { fits = omega (arith, there (goal.at.overflow_cast-count c).After-shared_slice_known-1) }

pub channel_place-at-requires : goal.channel_place-at-requires
channel_place-at-requires c = omega (arith, there (goal.at.channel_place-at-requires c).After-shared_slice_known-1)

pub returns : goal.returns
returns c =
    let b = c in
    let s = b in
    insert-channel _ (λ n. (s.type_inv.f n).fits) _ _ _ s.requires c.channel_place-at.ensures.0 (rw b.channel_count.ensures.0)
