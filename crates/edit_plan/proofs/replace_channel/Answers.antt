-- The channel is there.
use Prim.Native.Nat.{◌<◌}
use Rattle.layout.specs.Places.{channel_count}
use Rattle.edit_plan.proofs.PlanLaws.{replace-channel-there, replace-channel}
use native.Mathlib.Omega.{arith}
use Rattle.edit_plan.proofs.replace_channel.Goals as goal
use Rattle.edit_plan.proofs.replace_channel.Goals.{After-shared_slice_known-1}

there : (c : After-shared_slice_known-1)
    → (c.args.i < channel_count c.args.f.now) × (channel_count c.args.f.now < 65536)
there c = replace-channel-there c.args.f.now (λ n. (c.type_inv.f n).fits) c.args.i 0 c.requires

pub channel_place-requires : goal.channel_place-requires
channel_place-requires c = omega (arith, there c)

pub returns : goal.returns
returns c = let s = c in replace-channel _ (λ n. (s.type_inv.f n).fits) _ _ s.requires c.channel_place.ensures.0
