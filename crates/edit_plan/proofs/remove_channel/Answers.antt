-- There is a channel, so the count is not zero.
use Prim.Native.Nat.{◌<◌}
use Rattle.layout.specs.Places.{channel_count}
use Rattle.edit_plan.proofs.PlanLaws.{remove-channel-there, remove-channel}
use native.Mathlib.Omega.{arith}
use Rattle.edit_plan.proofs.remove_channel.Goals as goal
use Rattle.edit_plan.proofs.remove_channel.Goals.{After-shared_slice_known-1}

there : (c : After-shared_slice_known-1)
    → (c.args.i < channel_count c.args.f.now) × (channel_count c.args.f.now < 65536)
there c = remove-channel-there c.args.f.now (λ n. (c.type_inv.f n).fits) c.args.i 0 c.requires

pub overflow_sub-count : goal.overflow_sub-count
overflow_sub-count c = omega (arith, there (goal.at.overflow_sub-count c).After-shared_slice_known-1)

pub channel_place-at-requires : goal.channel_place-at-requires
channel_place-at-requires c = omega (arith, there (goal.at.channel_place-at-requires c).After-shared_slice_known-1)

pub returns : goal.returns
returns c =
    let b = c in
    let s = b in
    remove-channel _ (λ n. (s.type_inv.f n).fits) _ _ _ s.requires c.channel_place-at.ensures.0 (rw b.channel_count.ensures.0)
