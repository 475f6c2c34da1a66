-- All 90 bytes, as `Valid` promises.
use Rattle.fields.proofs.Laws.{part_whole}
use Rattle.codeplug.specs.Read.{bytes_answer}
use Rattle.layout.specs.Places.{channel_place}
use Rattle.codeplug.proofs.bytes.channel_bytes.Goals as goal

pub returns-in-Ok : goal.returns-in-Ok
unfolding bytes_answer
returns-in-Ok c =
    let e = c in
    let a = e.args in
    let is = rw c.channel_place.ensures.0 at c.record_bytes.ensures in
    (rw e.in-Ok.is is, λ g. rw is (part_whole a.f.now (channel_place a.f.now a.n) 90 (e.requires g).1))
