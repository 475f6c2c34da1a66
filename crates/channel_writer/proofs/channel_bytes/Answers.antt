-- `channel_bytes`: each part stands where the one before it ends, or where its padding does, over zeros.
use mathlib.Core.Path.{refl}
use native.Mathlib.Omega.{arith}
use Rattle.fields.specs.Bytes.{zeros}
use Rattle.text.proofs.Laws.{given_ok-length}
use Rattle.channel_writer.proofs.WriteLaws.{writable-by, record-front, record-whole, front_length, front-drop}
use Rattle.channel_writer.proofs.channel_bytes.Goals as goal

pub put_head-requires : goal.put_head-requires
put_head-requires c = (refl, (writable-by _ _ _ _ _ c.requires).head)

pub put-requires : goal.put-requires
put-requires c =
    omega (
      arith,
      given_ok-length _ (writable-by _ _ _ _ _ c.requires).text,
      c.put_head.auto,
    )

pub put-requires-2 : goal.put-requires-2
put-requires-2 c =
    let e = c in
    omega (
      arith,
      given_ok-length _ (writable-by _ _ _ _ _ e.requires).second,
      c.put.auto,
      e.put_head.auto,
    )

pub put_info-requires : goal.put_info-requires
unfolding zeros
put_info-requires c =
    let e = c in
    let h = e in
    let g = writable-by _ _ _ _ _ h.requires in
    let f =
    record-front _ _ _ _ _ _ _ _ (given_ok-length _ g.text) (given_ok-length _ g.second) h.put_head.ensures
    e.put.ensures
    e.put-2.ensures
    c.put_location.ensures
    in
    (front_length f, (front-drop f, g.rest))

pub returns : goal.returns
unfolding zeros
returns c =
    let e = c in
    let h = e in
    let g = writable-by _ _ _ _ _ h.requires in
    let f =
    record-front _ _ _ _ _ _ _ _ (given_ok-length _ g.text) (given_ok-length _ g.second) h.put_head.ensures
    e.put.ensures
    e.put-2.ensures
    c.put_location.ensures
    in
    record-whole _ _ _ _ _ _ _ h.mode_number.ensures f c.put_info.ensures
