-- Laws of an edit: the call's step at a known kind, what an edit has that is not refused, and its change recorded and made.
use Prim.Native.Nat.{ℕ, ◌+◌, ◌-◌, ◌≤◌, ◌<◌}
use mathlib.Core.Path.{◌≡◌, refl, ap, sym, ◌∙◌}
use mathlib.Core.Bool.{true}
use mathlib.Core.List.{List}
use native.Mathlib.Omega.{arith}
use native.Mathlib.Nat.{zero-add}
use lib.ListN.{length, take}
use lib.Seq.{length-take-le}
use lib.Dec.{leb}
use borrow.Author.Tests.{le-leb, lt-leb, leb-true, eqb-true}
use Rattle.fields.specs.Bytes.{part}
use Rattle.fields.specs.Rule.{◌then◌, unless, Validity, Valid, Refused}
use Rattle.fields.proofs.Laws.{AllBytes, bytes_take, then-valid, valid-then, then-refused, err_then, unless-valid, part-part, little_bytes-little}
use Rattle.m17.specs.declared.Edition.{Edition}
use Rattle.file_rule.specs.File.{file_rule}
use Rattle.file_rule.proofs.Laws.{file-valid}
use Rattle.journal.specs.Entry.{Entries, whole, broken, entries_of, entry_size, history_bytes}
use Rattle.journal.specs.History.{fitting_run, recorded}
use Rattle.journal.specs.History.{number_of_entries}
use Rattle.journal.specs.Change.{entry_of}
use Rattle.journal.specs.Machine.{State, holding, file_of, entry_list, history_of, buffers_rule, refused, done, new_entry, edit_rule, edit_outcome, edit_step}
use Rattle.journal.specs.Span.{span_of, entry_from, Sound, span_size, recorded_in}
use Rattle.journal.specs.declared.recording.Span.{Span}
use Rattle.journal.specs.declared.scan.Run.{Run}
use Rattle.journal.proofs.ChangeLaws.{tail-left, tail-right, length_taken}
use Rattle.journal.proofs.RecordLaws.{span-size, span-entry, sound-entry_of, span-old}
use Rattle.plan.specs.declared.Plan.{Plan}
use Rattle.plan.specs.Plan.{planned}
use Rattle.plan.specs.Fits.{Fits}
use Rattle.model.specs.Codeplug.{codeplug_of}
use Rattle.model.specs.HasLayout.{HasLayout}
use Rattle.model.specs.declared.Kind.{Kind}
use Rattle.model.specs.Kinds.{kind_of, record_length}
use Rattle.model.specs.EditRules.{place_ok, count_ok}
use Rattle.edits.specs.Result.{result}
use Rattle.edits.proofs.AcceptedCodeplug.{has-layout}
use Rattle.edit_plan.specs.Planned.{Makes}
use Rattle.edits.specs.Editing.{EditRequest, refuses_known, refuses_kind, refuses, applied_kind, applied, editing}
use Rattle.preconditions.specs.Calls.{state_of, outcome_of}
use Rattle.editor.specs.Edit.{committed, known_rule, known_outcome, known_step}
use Rattle.preconditions.proofs.PreconditionLaws.{preconditions-inside, preconditions-entries}
use Rattle.std.specs.Prelude.{Ok, Err, Some, None, Option}
use Rattle.format.specs.declared.refusals.Reason.TheVariants as reason
use Rattle.journal.specs.Answer.{done_with}
use Rattle.format.specs.declared.refusals.Refusal.{Refusal}

-- ---- buffers that meet the preconditions

pub preconditions-file : (ed : Edition) (m : State) → buffers_rule (editing ed) m ≡ Valid → file_rule ed (file_of m) ≡ Valid
unfolding buffers_rule
preconditions-file ed m e = (then-valid _ _ (then-valid _ _ e).1).0

-- ---- the call's step, by its kind

pub edit-refused : (ed : Edition) (a : EditRequest) (m : State) (x : Refusal) (v : Validity) → v ≡ buffers_rule (editing ed) m → v ≡ Err x
    → outcome_of (Err x) m.room m.history ≡ edit_step (editing ed) a m
unfolding edit_step edit_rule edit_outcome refused
edit-refused ed a m x v e f = rw (sym e ∙ f, err_then x _)

rule-holds : (ed : Edition) (a : EditRequest) (m : State) → buffers_rule (editing ed) m ≡ Valid
    → edit_rule (editing ed) a m
    ≡ refuses ed a (length m.room) (file_of m) then unless (leb (entry_size (entry_of (file_of m) (applied a (file_of m)))) (length m.history)) reason.HistoryTooSmall 0
unfolding edit_rule new_entry
rule-holds ed a m e = valid-then _ _ e

rule-no-kind : (ed : Edition) (a : EditRequest) (m : State) → buffers_rule (editing ed) m ≡ Valid → kind_of a.kind ≡ None → edit_rule (editing ed) a m ≡ Refused reason.NoEdit 0
unfolding refuses refuses_kind
rule-no-kind ed a m e f = rule-holds ed a m e ∙ rw f (then-refused (Refused reason.NoEdit 0) _ reason.NoEdit 0 refl)

pub edit-no-kind : (ed : Edition) (a : EditRequest) (m : State) (k : Option Kind) → buffers_rule (editing ed) m ≡ Valid → k ≡ kind_of a.kind → k ≡ None
    → outcome_of (Refused reason.NoEdit 0) m.room m.history ≡ edit_step (editing ed) a m
unfolding edit_step edit_outcome refused
edit-no-kind ed a m k e f g = rw (rule-no-kind ed a m e (sym f ∙ g))

rule-known : (ed : Edition) (a : EditRequest) (m : State) (k : Kind) → buffers_rule (editing ed) m ≡ Valid → kind_of a.kind ≡ Some k
    → edit_rule (editing ed) a m ≡ known_rule ed k a.first a.second a.bytes m
unfolding refuses refuses_kind applied applied_kind known_rule
rule-known ed a m k e f = rule-holds ed a m e ∙ rw f

applied-known : (a : EditRequest) (k : Kind) (f : List ℕ) → kind_of a.kind ≡ Some k → applied a f ≡ result k a.first a.second a.bytes f
unfolding applied applied_kind
applied-known a k f e = rw e

-- both ways to tell the outcome agree
outcome-known : (ed : Edition) (a : EditRequest) (m : State) (k : Kind) (v : Validity) (t : Entries) → kind_of a.kind ≡ Some k → history_of m ≡ t
    → edit_outcome (editing ed) a m v (entry_list t) ≡ known_outcome v k a.first a.second a.bytes m
unfolding edit_outcome known_outcome committed new_entry recorded_in recorded fitting_run entry_list
outcome-known ed a m k (Err e') t f e = refl
outcome-known ed a m k (Ok u) (whole es) f e = rw (applied-known a k (file_of m) f, e)
outcome-known ed a m k (Ok u) broken f e = rw (applied-known a k (file_of m) f, e)

pub edit-known : (ed : Edition) (a : EditRequest) (m : State) (k : Kind) (r : Option Kind) → buffers_rule (editing ed) m ≡ Valid → r ≡ kind_of a.kind → r ≡ Some k
    → known_step ed k a.first a.second a.bytes m ≡ edit_step (editing ed) a m
unfolding edit_step known_step
edit-known ed a m k r e f g =
    let h : kind_of a.kind ≡ Some k = sym f ∙ g in
    sym (rw (rule-known ed a m k e h) (outcome-known ed a m k (known_rule ed k a.first a.second a.bytes m) (history_of m) h refl))

-- ---- a change recorded, then made

change-numbers : (f g : List ℕ)
    → ((span_of (entry_of f g)).place + (span_of (entry_of f g)).taken ≤ length f)
    × (length f - (span_of (entry_of f g)).taken + (span_of (entry_of f g)).put ≡ length g)
unfolding span_of
change-numbers f g =
    let l = length_taken f g in
    let a = tail-left f g in
    let b = tail-right f g in
    (unfold entry_of in omega arith, unfold entry_of in omega arith)

-- the change from the content of d to g, in buffers that meet the preconditions: its numbers, and the bytes of d that its entry keeps
pub record Changes (d : List ℕ) (len : ℕ) (h : List ℕ) (used : ℕ) (g : List ℕ) (s : Span) : Type 0 where
  pub held : len ≤ length d
  pub short : len ≤ 1_048_576
  pub stored : used ≤ length h
  pub unbroken : number_of_entries (entries_of (take used h)) ≡ None → ⊥
  pub sound : Sound s
  pub inside : s.place + s.taken ≤ len
  pub new_is : len - s.taken + s.put ≡ length g
  pub old-long : length (part d s.place s.taken) ≡ s.taken
  pub entry-is : entry_from s (part d s.place s.taken) ≡ entry_of (take len d) g

pub preconditions-accepted : (ed : Edition) (d : List ℕ) (len : ℕ) (h : List ℕ) (used : ℕ) → buffers_rule (editing ed) (state_of d len h used) ≡ Valid
    → file_rule ed (take len d) ≡ Valid
unfolding file_of
preconditions-accepted ed d len h used fine = preconditions-file ed (state_of d len h used) fine

pub preconditions-has-layout : (ed : Edition) (d : List ℕ) (len : ℕ) (h : List ℕ) (used : ℕ) → buffers_rule (editing ed) (state_of d len h used) ≡ Valid → AllBytes d → HasLayout (take len d)
preconditions-has-layout ed d len h used fine b = has-layout ed (take len d) (preconditions-accepted ed d len h used fine) (bytes_take len d b)

pub preconditions-short : (ed : Edition) (d : List ℕ) (len : ℕ) (h : List ℕ) (used : ℕ) → buffers_rule (editing ed) (state_of d len h used) ≡ Valid → length (take len d) ≤ 1_048_576
preconditions-short ed d len h used fine = (file-valid ed (take len d) (preconditions-accepted ed d len h used fine)).short

preconditions-unbroken : (ed : Edition) (d : List ℕ) (len : ℕ) (h : List ℕ) (used : ℕ) → buffers_rule (editing ed) (state_of d len h used) ≡ Valid
    → number_of_entries (entries_of (take used h)) ≡ None
    → ⊥
unfolding history_of
preconditions-unbroken ed d len h used fine = preconditions-entries ed (state_of d len h used) fine

module _ (d : List ℕ) (len : ℕ) (h : List ℕ) (used : ℕ) (g : List ℕ) where
  changes-at : (ed : Edition) → buffers_rule (editing ed) (state_of d len h used) ≡ Valid → length g ≤ 1_048_576 → Changes d len h used g (span_of (entry_of (take len d) g))
  changes-at ed fine small =
      let f = take len d in
      let s = span_of (entry_of f g) in
      let i = preconditions-inside ed d len h used fine in
      let l : length f ≡ len = length-take-le len d i.0 in
      let short = preconditions-short ed d len h used fine in
      let n = change-numbers f g in
      let o = span-old f g in
      let q : part f s.place s.taken ≡ part d s.place s.taken = part-part d 0 len s.place s.taken (omega arith) ∙ rw zero-add in
      record {
        held = i.0;
        short = omega arith;
        stored = i.1;
        unbroken = preconditions-unbroken ed d len h used fine;
        sound = sound-entry_of f g short small;
        inside = omega arith;
        new_is = omega arith;
        old-long = sym (o.0 ∙ ap length q);
        entry-is = ap (λ (b : List ℕ). entry_from s b) (sym (o.1 ∙ q)) ∙ span-entry (entry_of f g);
      }

  pub changes : (ed : Edition) (s : Span) → buffers_rule (editing ed) (state_of d len h used) ≡ Valid → length g ≤ 1_048_576 → s ≡ span_of (entry_of (take len d) g)
      → Changes d len h used g s
  changes ed s fine small e = rw e (changes-at ed fine small)

  -- b is the bytes that the entry keeps; the history is recorded, then the room holds g
  pub change-made : (s : Span) (b d₁ h₁ : List ℕ) (new : ℕ) (run : Run) → Changes d len h used g s → b ≡ part d s.place s.taken
      → new ≡ len - s.taken + s.put → d₁ ≡ holding d len g
      → h₁ ≡ holding h used (history_bytes (recorded_in (length h) (entry_from s b) (entries_of (take used h))))
      → run
      ≡ record {
        bytes = length (history_bytes (recorded_in (length h) (entry_from s b) (entries_of (take used h))));
        entries = length (recorded_in (length h) (entry_from s b) (entries_of (take used h)));
      }
      → outcome_of (done_with new run.bytes run.entries) d₁ h₁ ≡ committed g (state_of d len h used)
  unfolding committed done file_of history_of
  change-made s b d₁ h₁ new run c e n f i r =
      let k : entry_from s b ≡ entry_of (take len d) g = ap (λ (x : List ℕ). entry_from s x) e ∙ c.entry-is in
      let l : new ≡ length g = n ∙ c.new_is in
      rw (f, i, r, l, k)

-- ---- an edit of a known kind

-- what an edit has that is not refused
pub record Passes (ed : Edition) (k : Kind) (i j : ℕ) (r : List ℕ) (room : ℕ) (f : List ℕ) : Type 0 where
  pub wide : length r ≡ record_length k
  pub place : place_ok k i j (codeplug_of f) ≡ true
  pub count : count_ok k i (codeplug_of f) ≡ true
  pub valid : file_rule ed (result k i j r f) ≡ Valid
  pub roomy : length (result k i j r f) ≤ room

pub passes : (ed : Edition) (k : Kind) (i j : ℕ) (r : List ℕ) (room : ℕ) (f : List ℕ) (v : Validity) → v ≡ refuses_known ed k i j r room f → v ≡ Valid
    → Passes ed k i j r room f
unfolding refuses_known
passes ed k i j r room f v e g =
    let wide = then-valid _ _ (sym e ∙ g) in
    let place = then-valid _ _ wide.1 in
    let count = then-valid _ _ place.1 in
    let free = then-valid _ _ count.1 in
    let validated = then-valid _ _ free.1 in
    record {
      wide = eqb-true _ _ (unless-valid _ _ _ wide.0);
      place = unless-valid _ _ _ place.0;
      count = unless-valid _ _ _ count.0;
      valid = validated.0;
      roomy = leb-true _ _ (unless-valid _ _ _ validated.1);
    }

-- the edit's plan p, in a room of so many bytes
pub record Planned (k : Kind) (i j : ℕ) (r : List ℕ) (room : ℕ) (f : List ℕ) (p : Plan) : Type 0 where
  pub is : planned p r f ≡ result k i j r f
  pub fits : Fits p r f
  pub roomy : length (planned p r f) ≤ room
  pub small : length (planned p r f) ≤ 1_048_576

pub plans : (ed : Edition) (k : Kind) (i j : ℕ) (r : List ℕ) (room : ℕ) (f : List ℕ) (p : Plan) → Passes ed k i j r room f → AllBytes r → Makes p k i j f
    → Planned k i j r room f p
unfolding Makes
plans ed k i j r room f p h b m =
    let a = m r h.wide (little_bytes-little r b) in
    let l = ap length a.0 in
    let w = h.roomy in
    let n = (file-valid ed (result k i j r f) h.valid).short in
    record {
      is = a.0;
      fits = a.1;
      roomy = omega arith;
      small = omega arith;
    }

module _ (ed : Edition) (k : Kind) (i j : ℕ) (r d : List ℕ) (len : ℕ) (h : List ℕ) (used : ℕ) (v : Validity)
    (e : v ≡ refuses_known ed k i j r (length d) (take len d)) where
  pub known-refused : (x : Refusal) → v ≡ Err x → outcome_of (Err x) d h ≡ known_step ed k i j r (state_of d len h used)
  unfolding known_step known_rule known_outcome refused file_of
  known-refused x g = rw (sym e ∙ g, err_then x _)

  module _ (g : v ≡ Valid) (p : Plan) (is : planned p r (take len d) ≡ result k i j r (take len d)) (s : Span)
      (at : s ≡ span_of (entry_of (take len d) (planned p r (take len d)))) where
    rule-37 : known_rule ed k i j r (state_of d len h used) ≡ unless (leb (span_size s) (length h)) reason.HistoryTooSmall 0
    unfolding known_rule file_of
    rule-37 =
        let n : span_size s ≡ entry_size (entry_of (take len d) (result k i j r (take len d))) =
        ap span_size at ∙ span-size (entry_of (take len d) (planned p r (take len d))) ∙ ap (λ (x : List ℕ). entry_size (entry_of (take len d) x)) is
        in
        valid-then _ _ (sym e ∙ g) ∙ rw n

    pub known-full : length h < span_size s → outcome_of (Refused reason.HistoryTooSmall 0) d h ≡ known_step ed k i j r (state_of d len h used)
    unfolding known_step known_outcome refused unless
    known-full q = rw (rule-37, lt-leb (span_size s) (length h) q)

    pub known-made : span_size s ≤ length h → committed (planned p r (take len d)) (state_of d len h used) ≡ known_step ed k i j r (state_of d len h used)
    unfolding known_step known_outcome unless file_of
    known-made q = rw (rule-37, le-leb (span_size s) (length h) q, is)
