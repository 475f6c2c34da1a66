-- Each return is one of the definition's answers, with what it leaves in the buffer.
use mathlib.Core.Path.{sym, ◌∙◌}
use Rattle.m17.proofs.Laws.{decoding-short, decoding-broadcast, decoding-invalid}
use Rattle.m17_decoder.proofs.WriteLaws.{decoding-written}
use Rattle.m17_decoder.proofs.decode.Goals as goal

pub returns-then-out-lt9 : goal.returns-then-out-lt9
returns-then-out-lt9 c =
    let e = c in
    decoding-short _ e.args.out.now e.args.n c.if-out-lt9.true

pub returns-then-is_callsign : goal.returns-then-is_callsign
returns-then-is_callsign c =
    let t = c in
    let i = t in
    let e = i in
    decoding-written _ e.args.out.now _ e.args.n _ i.if-out-lt9.false
    (sym i.is_callsign.ensures ∙ i.if-is_callsign.true) t.write_text.ensures

pub returns-then-n-eq-BROADCAST : goal.returns-then-n-eq-BROADCAST
returns-then-n-eq-BROADCAST c =
    let e = c in
    decoding-broadcast _ e.args.out.now e.args.n c.if-out-lt9.false
    (sym c.is_callsign.ensures ∙ c.if-is_callsign.false) c.if-n-eq-BROADCAST.true

pub returns : goal.returns
returns c =
    let e = c in
    decoding-invalid _ e.args.out.now e.args.n c.if-out-lt9.false
    (sym c.is_callsign.ensures ∙ c.if-is_callsign.false) c.if-n-eq-BROADCAST.false
