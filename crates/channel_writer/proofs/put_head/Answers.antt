-- `put_head`: the fields lie side by side from the record's first byte on.
use mathlib.Core.Path.{◌∙◌}
use native.Mathlib.Omega.{arith}
use Rattle.fields.specs.Bytes.{little_bytes}
use Rattle.fields.proofs.Laws.{long-byte, long-little}
use Rattle.channel_writer.specs.Writing.{head_bytes}
use Rattle.channel_writer.proofs.WriteLaws.{head-writable, run-start, run-then}
use Rattle.channel_writer.proofs.put_head.Goals as goal

pub number_flag_byte-requires : goal.number_flag_byte-requires
number_flag_byte-requires c =
    rw c.from.ensures (head-writable _ c.requires.1).traits

pub returns : goal.returns
unfolding head_bytes little_bytes
returns c =
    let e = c in
    let f = e in
    let g = f in
    let r1 = run-start _ _ 0 _ (long-byte _) g.put_byte.ensures (omega arith) in
    let r2 = run-then r1 _ _ (long-byte _) f.put_byte-2.ensures in
    let r3 = run-then r2 _ _ (long-byte _) f.put_byte-3.ensures in
    let r4 = run-then r3 _ _ (long-little 4 _) e.put_le32.ensures in
    let r5 = run-then r4 _ _ (long-little 4 _) e.put_le32-2.ensures in
    let r6 = run-then r5 _ _ (long-byte _) c.put_byte-4.ensures in
    let r7 = run-then r6 _ _ (long-byte _) c.put_byte-5.ensures in
    r7.is ∙ rw (g.number_flag_byte.ensures, g.from.ensures)
