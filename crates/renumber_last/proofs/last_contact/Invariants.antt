-- The invariant: the last index that moves among i channels.
use Rattle.renumber.specs.Moved.{channels_moved}
use Rattle.renumber_last.specs.Last.{LastMoved}
use Rattle.renumber.specs.Shift.{shift_of}
use Rattle.fields.specs.Bytes.{over}
use Rattle.renumber_last.proofs.last_contact.Given as goal

abbrev pub invariant-loop-i : goal.invariant-loop-i
invariant-loop-i l = LastMoved (shift_of l.s) l.f (over l.f l.start (channels_moved (shift_of l.s) l.f l.i l.start)) l.start l.last
