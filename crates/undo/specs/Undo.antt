-- The steps of an undo. No promise to a caller rests on these: `undo` is told by `undo_step` alone.
use Rattle.std.specs.Prelude.{ℕ, ◌+◌, ◌-◌, ◌≡◌, Bool, false, cond, List, take, drop}
use Rattle.fields.specs.Bytes.{part}
use Rattle.fields.specs.Rule.{is_valid}
use Rattle.m17.specs.declared.Edition.{Edition}
use Rattle.file_rule.specs.File.{file_rule}
use Rattle.buffers.specs.Cut.{cut}
use Rattle.buffers.specs.Splice.{spliced}
use Rattle.journal.specs.Entry.{Entry}
use Rattle.journal.specs.Change.{revert}
use Rattle.journal.specs.Machine.{Outcome, holding, refused, entry_fits}
use Rattle.journal.specs.declared.scan.EntryHead.{EntryHead}
use Rattle.edits.specs.Editing.{editing}
use Rattle.preconditions.specs.Calls.{state_of}
use Rattle.journal.specs.Answer.{done_with}
use Rattle.format.specs.declared.refusals.Reason.TheVariants as reason

-- the m bytes at `body` of h put in place of the k bytes at p of the content of d: whether reading the result is valid, and what d and h
-- are afterwards, as they were if not
pub record Tried (e : Edition) (d : List ℕ) (len p k : ℕ) (h : List ℕ) (body m : ℕ) (valid : Bool) (d₁ h₁ : List ℕ) : Type 0 where
  pub validated : valid ≡ is_valid (file_rule e (cut (take len d) p k (part h body m)))
  pub room-is : d₁ ≡ cond valid (spliced d len p k (part h body m)) d
  pub behind-is : drop (body + m) h₁ ≡ drop (body + m) h
  pub kept : valid ≡ false → h₁ ≡ h

-- the entry with this head
unfoldable pub headed : List ℕ → EntryHead → Entry
headed h top = record { place = top.place; put = top.put; old = part h top.body top.taken }

-- the entry `top` taken back, and dropped from a history of so many entries
unfoldable pub undone : Edition → List ℕ → ℕ → List ℕ → ℕ → EntryHead → ℕ → Outcome
undone e room len history used top entries =
    cond (entry_fits (editing e) (headed history top) (state_of room len history used))
    (record {
      answer = done_with (len - top.put + top.taken) (used - top.next) (entries - 1);
      room = holding room len (revert (headed history top) (take len room));
      history = holding history used (part history top.next (used - top.next));
    })
    (refused reason.HistoryEntry 0 (state_of room len history used))
