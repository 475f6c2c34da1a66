-- `put_fm`: two tones over zeros, which stay in the three pads.
use mathlib.Core.Path.{refl, ◌∙◌}
use native.Mathlib.Omega.{arith}
use Rattle.fields.specs.Bytes.{zeros}
use Rattle.fields.proofs.Laws.{long-byte}
use Rattle.channel_writer.specs.Writing.{info_bytes}
use Rattle.channel_writer.proofs.WriteLaws.{fm-writable, run-start, run-then, run-zeros}
use Rattle.channel_writer.proofs.put_fm.Goals as goal

pub tone_byte-requires : goal.tone_byte-requires
tone_byte-requires c = let g = fm-writable _ c.requires.1.1 in search

pub tone_byte-requires-2 : goal.tone_byte-requires-2
tone_byte-requires-2 c = let g = fm-writable _ c.requires.1.1 in search

pub returns : goal.returns
unfolding info_bytes zeros
returns c =
    let e = c in
    let a = e in
    let r1 = run-start _ _ 85 _ (long-byte _) e.put_byte.ensures (omega (arith, a.requires.0)) in
    let r2 = run-then r1 _ _ (long-byte _) c.put_byte-2.ensures in
    run-zeros r2 5 3 a.requires.1.0 refl ∙ rw (e.tone_byte.ensures, c.tone_byte-2.ensures)
