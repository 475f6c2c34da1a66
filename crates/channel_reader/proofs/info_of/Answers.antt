-- The definition's tests on the mode.
use Rattle.channel_reader.specs.Reading.{info_of}
use borrow.Author.Tests.{eq-eqb, ne_eqb}
use native.Mathlib.Omega.{arith}
use Rattle.channel_reader.proofs.info_of.Goals as goal

pub returns-then-mode-eq-FM : goal.returns-then-mode-eq-FM
unfolding info_of
returns-then-mode-eq-FM c =
    let m = c.byte_at-mode in
    rw (← m.ensures, eq-eqb m.result 0 (omega arith), c.fm_of.ensures)

pub returns-then-mode-eq-DMR : goal.returns-then-mode-eq-DMR
unfolding info_of
returns-then-mode-eq-DMR c =
    let m = c.byte_at-mode in
    rw (← m.ensures, ne_eqb m.result 0 (omega arith), eq-eqb m.result 1 (omega arith), c.dmr_of.ensures)

pub returns : goal.returns
unfolding info_of
returns c =
    let m = c.byte_at-mode in
    rw (← m.ensures, ne_eqb m.result 0 (omega arith), ne_eqb m.result 1 (omega arith), c.m17_of.ensures)
