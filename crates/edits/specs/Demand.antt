-- Demand 3 for codeplugs; proofs/Promised.antt proves it (`editor-promise`). That the code is the machine it speaks of is what the contracts
-- of the calls say: `edit` equals `edit_step (editing e)`, `undo` equals `undo_step (editing e)` (editor and undo, src/lib.rt). What an edit
-- does and refuses is the same definition for the machine and the book, as document 01 asks: Edits.antt and EditRules.antt of model, Editing.antt here.
use Rattle.fields.specs.Bytes.{AllBytes}
use Rattle.m17.specs.declared.Edition.{Edition}
use Rattle.journal.specs.Promise.{EveryList}
use Rattle.edits.specs.Editing.{EditRequest, editing}

-- an edit whose record is bytes, which is every one that code can pass
abbrev pub OfBytes : EditRequest → Type 0
OfBytes a = AllBytes a.bytes

-- by either edition of addresses, one throughout a list of calls, the book reading by the same (document 02, [10])
abbrev pub Demand3 : Type 0
Demand3 = (e : Edition) → EveryList (editing e) OfBytes
