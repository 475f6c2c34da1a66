-- `put_dmr`: the fields over zeros, of which the last stays as the pad.
use mathlib.Core.Path.{refl, ◌∙◌}
use native.Mathlib.Omega.{arith}
use Rattle.fields.specs.Bytes.{zeros, little_bytes}
use Rattle.fields.proofs.Laws.{long-byte, long-little}
use Rattle.channel_writer.specs.Writing.{info_bytes}
use Rattle.channel_writer.proofs.WriteLaws.{dmr-writable, run-start, run-then, run-zeros}
use Rattle.channel_writer.proofs.put_dmr.Goals as goal

pub nibbles_byte-requires : goal.nibbles_byte-requires
nibbles_byte-requires c = (dmr-writable _ c.requires.1.1).nibbles

pub returns : goal.returns
unfolding info_bytes zeros little_bytes
returns c =
    let e = c in
    let f = e in
    let a = f in
    let r1 = run-start _ _ 85 _ (long-byte _) f.put_byte.ensures (omega (arith, a.requires.0)) in
    let r2 = run-then r1 _ _ (long-byte _) e.put_byte-2.ensures in
    let r3 = run-then r2 _ _ (long-little 2 _) c.put_le16.ensures in
    run-zeros r3 5 1 a.requires.1.0 refl ∙ rw (f.nibbles_byte.ensures, c.contact_index_number.ensures)
