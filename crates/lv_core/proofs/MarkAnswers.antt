-- What the engine answers to a mark is what the plain machine gives.
use Rattle.std.proofs.Common.{inl, inr, ◌≡◌, ℕ, ◌≤◌, Bool, true, false, List, Option, Some, None, refl, sym, ap, ◌∙◌, subst}
use Rattle.std.specs.Prelude.{◌==◌, if◌then◌else◌, slice_index, Result, Ok, Err}
use Rattle.lv_outside.specs.Causes.{Rose}
use Rattle.lv_schema.specs.declared.fault.Fault.{Fault}
use Rattle.lv_schema.specs.declared.rec.Rec.{Rec}
use Rattle.lv_schema.specs.Cases.{Outcome, good, failed, full}
use Rattle.lv_schema.specs.UpkeepCases.{Marking, mark_record, marked_by, marking, outcome_of}
use Rattle.lv_schema.specs.World.{Upkeep, World, point}
use Rattle.lv_plain.specs.declared.entry.Entry.TheVariants as entry
use Rattle.lv_plain.specs.declared.entry.MarkOutcome.TheVariants as outcome
use Rattle.lv_plain.specs.Machine.{mark_outcome}
use Rattle.lv_plain.specs.Rules.{Rules}
use Rattle.lv_plain.specs.WrittenRecords.{answered_record}
use Rattle.lv_replay.specs.Runs.{mark_written}
use Rattle.lv_engine.specs.Answering.{LogsUnless, MarkRefuses}
use Rattle.lv_engine.specs.Kept.{EngineView}
use Rattle.lv_engine.specs.Records.{Logs}
use Rattle.lv_engine.specs.Writing.{IsUntouched}
use Rattle.lv_core.specs.Answering.{GivesMark, IsUndone}
use Rattle.lv_crash.proofs.Follows.{Follows}

some_fault : (a b : Fault) → ◌≡◌ {A = Option Fault} (Some a) (Some b) → a ≡ b
some_fault a b e = cc

unwritten : (answer : Result (Option ℕ) Fault) (next : Upkeep) (attempted : Option Rec) (f : Fault) → answer ≡ Err f → mark_written (record { answer = answer; next = next; attempted = attempted }) ≡ None
unwritten (Ok None) next attempted f e = absurd cc
unwritten (Ok (Some upto)) next attempted f e = absurd cc
unwritten (Err g) next attempted f e = refl

pub mark_follows : (rules : Rules) (fails : Bool) (view : ℕ) (u : Upkeep) → let m = marking (outcome_of rules.settings fails u) view u in Follows m.attempted (answered_record rules fails m.answer view u)
mark_follows rules fails view u = by (slice_index u.marks view == point u view)
  where
    writes : (out : Outcome) → Follows (marked_by out view u).attempted (answered_record rules fails (marked_by out view u).answer view u)
    writes good = inr refl
    writes failed = inl refl
    writes (full need limit) = inl refl

    by : (b : Bool) → let m = if b then record { answer = Ok None; next = u; attempted = None } else marked_by (outcome_of rules.settings fails u (mark_record view u)) view u in Follows m.attempted (answered_record rules fails m.answer view u)
    by true = inl refl
    by false = writes (outcome_of rules.settings fails u (mark_record view u))

module _ {D : Type 0} (seen : D → Option (List ℕ)) (may_leave : D → List ℕ → Type 0) (moment : D → ℕ) (left_since : D → ℕ → List ℕ → Type 0) (failures : D → ℕ) (rules : Rules) (view : ℕ) (w : World) (old new : EngineView D) where
  abbrev m : Bool → Marking
  m fails = marking (outcome_of rules.settings fails w.upkeep) view w.upkeep

  pub mark_undone : (fails : Bool) (fault : Option Fault) → fault ≡ None → MarkRefuses fault w old new (m fails) → LogsUnless seen may_leave moment left_since fault (m fails).attempted (mark_written (m fails)) old.journal new.journal
      → IsUntouched seen may_leave failures old.journal.disk new.journal.disk → IsUndone seen may_leave moment left_since failures old new
  mark_undone fails (Some f) none h logs untouched = absurd cc
  mark_undone fails None none h logs untouched = record { same = h; logs = logs; disk = untouched }

  pub mark_refused : (fails : Bool) (fault : Option Fault) (f : Fault) → fault ≡ Some f → MarkRefuses fault w old new (m fails) → LogsUnless seen may_leave moment left_since fault (m fails).attempted (mark_written (m fails)) old.journal new.journal
      → failures old.journal.disk ≤ failures new.journal.disk → (fails ≡ true → Rose (failures old.journal.disk) (failures new.journal.disk))
      → GivesMark seen may_leave moment left_since failures rules view w old new (entry.Marked view (outcome.Refused f))
  mark_refused fails None f is h logs later cause = absurd cc
  mark_refused fails (Some g) f is h logs later cause =
      let quiet : answered_record rules fails (m fails).answer view w.upkeep ≡ None = ap (λ (r : Result (Option ℕ) Fault). answered_record rules fails r view w.upkeep) h.0 in
      let same : mark_written (m fails) ≡ answered_record rules fails (m fails).answer view w.upkeep = unwritten (m fails).answer (m fails).next (m fails).attempted g h.0 ∙ sym quiet in
      record {
        fails = fails;
        entry = ap (λ (x : Fault). entry.Marked view (outcome.Refused x)) (sym (some_fault g f is)) ∙ sym (ap (λ (r : Result (Option ℕ) Fault). entry.Marked view (mark_outcome rules fails r)) h.0);
        stands = h.1;
        journal = record { logs = subst (λ (o : Option Rec). Logs seen may_leave moment left_since (m fails).attempted o old.journal new.journal) same logs; later = later };
        cause = cause;
      }
