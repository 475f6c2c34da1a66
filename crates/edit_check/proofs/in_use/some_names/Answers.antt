use Prim.Native.Nat.{◌+◌, ◌*◌}
use Rattle.edit_check.proofs.InUse.{names_next}
use native.Mathlib.Omega.{arith}
use Rattle.edit_check.proofs.in_use.some_names.Goals as goal

pub loop-n-preserved : goal.loop-n-preserved
loop-n-preserved c =
    let l = c.loop-n in
    names_next _ _ l.n (c.channel_place-start.result + l.n * 90) _ c.args.f.now _ _ _ _ (omega arith) l.invariant c.record_bytes-channel.ensures c.named_contact.ensures c.is_index.ensures c.if-is_index.false (omega arith)
