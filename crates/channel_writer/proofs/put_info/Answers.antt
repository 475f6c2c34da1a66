-- `put_info`: by the kind of info.
use mathlib.Core.Path.{◌∙◌}
use Rattle.channel_writer.proofs.put_info.Goals as goal

pub put_fm-requires : goal.put_fm-requires
put_fm-requires c =
    let a = c in
    (a.requires.0, (a.requires.1.0, rw c.in-Fm.is at a.requires.1.1))

pub put_dmr-requires : goal.put_dmr-requires
put_dmr-requires c =
    let a = c in
    (a.requires.0, (a.requires.1.0, rw c.in-Dmr.is at a.requires.1.1))

pub put_m17-requires : goal.put_m17-requires
put_m17-requires c =
    let a = c in
    (a.requires.0, (a.requires.1.0, rw c.in-M17.is at a.requires.1.1))

pub returns-in-Fm : goal.returns-in-Fm
returns-in-Fm c = c.put_fm.ensures ∙ rw c.in-Fm.is

pub returns-in-Dmr : goal.returns-in-Dmr
returns-in-Dmr c = c.put_dmr.ensures ∙ rw c.in-Dmr.is

pub returns-in-M17 : goal.returns-in-M17
returns-in-M17 c = c.put_m17.ensures ∙ rw c.in-M17.is
