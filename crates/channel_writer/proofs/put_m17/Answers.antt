-- `put_m17`: the fields over all five zeros.
use mathlib.Core.Path.{refl, ◌∙◌}
use native.Mathlib.Omega.{arith}
use Rattle.fields.specs.Bytes.{zeros, little_bytes}
use Rattle.fields.proofs.Laws.{long-byte, long-little}
use Rattle.channel_writer.specs.Writing.{info_bytes}
use Rattle.channel_writer.proofs.WriteLaws.{flag-byte, m17-writable, use-bounds, nibbles-small, run-start, run-then, run-zeros}
use Rattle.channel_writer.proofs.put_m17.Goals as goal

pub nibbles_byte-requires : goal.nibbles_byte-requires
nibbles_byte-requires c = (m17-writable _ c.requires.1.1).nibbles

pub nibbles_byte-requires-2 : goal.nibbles_byte-requires-2
nibbles_byte-requires-2 c =
    let u = use-bounds _ (m17-writable _ c.requires.1.1) in
    nibbles-small _ (omega arith) (omega arith)

pub returns : goal.returns
unfolding info_bytes zeros little_bytes
returns c =
    let e = c in
    let f = e in
    let g = f in
    let a = g in
    let r1 = run-start _ _ 85 _ (long-byte _) g.put_byte.ensures (omega (arith, a.requires.0)) in
    let r2 = run-then r1 _ _ (long-byte _) f.put_byte-2.ensures in
    let r3 = run-then r2 _ _ (long-byte _) e.put_byte-3.ensures in
    let r4 = run-then r3 _ _ (long-little 2 _) c.put_le16.ensures in
    run-zeros r4 5 0 a.requires.1.0 refl
    ∙ rw (g.nibbles_byte.ensures, f.nibbles_byte-2.ensures, flag-byte, c.contact_index_number.ensures)
