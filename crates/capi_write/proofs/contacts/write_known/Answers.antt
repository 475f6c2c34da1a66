-- A mode that is there is validated as the library does; a foreign one answers in its turn.
use mathlib.Core.Path.{sym, ◌∙◌}
use Rattle.capi_write.proofs.ContactLaws.{mode_known, known_written, foreign_refused}
use Rattle.capi_write.proofs.contacts.write_known.Goals as goal

pub returns-then-values-eq-DMR : goal.returns-then-values-eq-DMR
returns-then-values-eq-DMR c =
    let k = known_written c.args.edition c.args.out.now c.args.name.now c.args.values (mode_known c.args.values.mode c.then-values-eq-DMR.either) in
    (rw (← k.0, ← c.info_from.ensures) c.write.ensures.0, rw (← k.1, ← c.info_from.ensures) c.write.ensures.1)

pub returns : goal.returns
returns c =
    let r = foreign_refused c.args.edition c.args.out.now c.args.name.now c.args.values c.if-values-eq-DMR.false c.if-values-eq-M17.false (sym c.unless.ensures ∙ c.in_ok-unless.was)
    (rw (← c.given_ok.ensures) (sym c.unless-2.ensures ∙ c.in_ok-unless-2.was)) in
    (sym r.0, sym r.1)
