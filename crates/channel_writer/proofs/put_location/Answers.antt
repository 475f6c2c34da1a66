-- `put_location`: the fields lie side by side from place 77 on.
use mathlib.Core.Path.{◌∙◌}
use native.Mathlib.Omega.{arith}
use Rattle.fields.specs.Bytes.{little_bytes}
use Rattle.fields.proofs.Laws.{long-byte, long-little}
use Rattle.channel_writer.specs.Writing.{location_bytes}
use Rattle.channel_writer.proofs.WriteLaws.{i8_passed, run-start, run-then}
use Rattle.channel_writer.proofs.put_location.Goals as goal

pub returns : goal.returns
unfolding location_bytes little_bytes
returns c =
    let e = c in
    let f = e in
    let l = c.struct_told-1.given.1.1.1.0.1 in
    let m = c.struct_told-2-1.given.1.1.1.1.0.1 in
    let r1 = run-start _ _ 77 _ (long-byte _) f.put_byte.ensures (omega (arith, f.requires)) in
    let r2 = run-then r1 _ _ (long-little 2 _) e.put_le16.ensures in
    let r3 = run-then r2 _ _ (long-byte _) e.put_byte-2.ensures in
    let r4 = run-then r3 _ _ (long-little 2 _) c.put_le16-2.ensures in
    let r5 = run-then r4 _ _ (long-little 2 _) c.put_le16-3.ensures in
    r5.is ∙ rw (f.signed_byte.ensures, i8_passed _ l, e.signed_byte-2.ensures, i8_passed _ m)
