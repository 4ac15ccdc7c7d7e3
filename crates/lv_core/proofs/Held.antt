-- What a run that is open holds, and what it is after an event.
use Rattle.std.proofs.Common.{◌≡◌, ℕ, ◌≤◌, true, false, List, [], ◌∷◌, ◌++◌, Option, None, sym, ap, ◌∙◌, subst, arith}
use Rattle.lv_journal.specs.declared.writer.Writer.{Writer}
use Rattle.lv_schema.specs.declared.rec.Rec.{Rec}
use Rattle.lv_plain.specs.declared.entry.Entry.{Entry}
use Rattle.lv_plain.specs.declared.event.Event.{Event}
use Rattle.lv_plain.specs.declared.program.Program.{Program}
use Rattle.lv_plain.specs.Legal.{MayHappen}
use Rattle.lv_plain.specs.Programs.{Places, setup_answered}
use Rattle.lv_plain.specs.WrittenRecords.{written_by}
use Rattle.lv_engine.specs.Kept.{EngineView, Stands}
use Rattle.lv_core.specs.Answering.{GivesEntry}
use Rattle.lv_core.specs.Run.{CoreView, Gave, IsRoomy, state_of, view_of}
use Rattle.lv_core.proofs.Happened.{given_by, happened, its_rules}
use Rattle.lv_core.proofs.RecordsGo.{Goes, goes_same}

-- a run that is open: what it keeps, and the run that contracts see
pub record OpenRun {D : Type 0} (seen : D → Option (List ℕ)) (may_leave : D → List ℕ → Type 0) (moment : D → ℕ) (left_since : D → ℕ → List ℕ → Type 0) (failures : D → ℕ) : Type 0 where
  pub policy : ℕ
  pub program : Program
  pub engine : EngineView D
  pub opened : EngineView D
  pub places : Places
  pub entries : List Entry
  pub spare : ℕ
  pub run : CoreView D
  pub held : IsRoomy seen may_leave moment left_since failures (view_of policy program engine opened places entries) spare
  pub is : view_of policy program engine opened places entries ≡ run

module _ {D : Type 0} {seen : D → Option (List ℕ)} {may_leave : D → List ℕ → Type 0} {moment : D → ℕ} {left_since : D → ℕ → List ℕ → Type 0} {failures : D → ℕ} where
  abbrev pub open_run : (policy : ℕ) (program : Program) (engine opened : EngineView D) (places : Places) (entries : List Entry) (spare : ℕ) (run : CoreView D)
      → IsRoomy seen may_leave moment left_since failures (view_of policy program engine opened places entries) spare → view_of policy program engine opened places entries ≡ run → OpenRun seen may_leave moment left_since failures
  open_run policy program engine opened places entries spare run held is =
      record { policy = policy; program = program; engine = engine; opened = opened; places = places; entries = entries; spare = spare; run = run; held = held; is = is }

  module _ (o : OpenRun seen may_leave moment left_since failures) where
    pub roomy_held : IsRoomy seen may_leave moment left_since failures o.run o.spare
    roomy_held = subst (λ (v : CoreView D). IsRoomy seen may_leave moment left_since failures v o.spare) o.is o.held

    pub combine_held : o.run.settings.combine ≡ o.engine.store.settings.combine
    combine_held = sym (ap (λ (v : CoreView D). v.settings.combine) o.is)

    pub limit_held : o.run.settings.limit ≡ o.engine.store.settings.log_limit
    limit_held = sym (ap (λ (v : CoreView D). v.settings.limit) o.is)

    pub stands_held : Stands (state_of o.run).world o.engine
    stands_held = subst (λ (v : CoreView D). Stands (state_of v).world o.engine) o.is o.held.run.stands

    pub setup_held : setup_answered o.run.program o.run.places ≡ true → setup_answered o.run.program (state_of o.run).places ≡ true
    setup_held answered = subst (λ (places : Places). setup_answered o.run.program places ≡ true) roomy_held.run.places_are answered

    engine_is : o.engine ≡ o.run.engine
    engine_is = ap (λ (v : CoreView D). v.engine) o.is

    -- ---- after an event of maintenance, which asks the disk for nothing and by which the places stay
    pub gave : (event : Event) (later more : List Entry) (new : EngineView D) (e : Entry) → MayHappen o.run.program (state_of o.run) event → (given_by false o.run event).next.places ≡ (state_of o.run).places
        → written_by (its_rules o.run) false event (state_of o.run) ≡ None → later ≡ o.entries → more ≡ later ++ e ∷ [] → new.store.settings ≡ o.engine.store.settings → new.journal ≡ o.engine.journal → GivesEntry (given_by false o.run event) new e
        → Gave seen may_leave moment left_since failures event o.run (view_of o.policy o.program new o.opened o.places more)
    gave event later more new e may stays unwritten same added kept quiet gives =
        let c = o.run in
        let journal_is : new.journal ≡ c.engine.journal = quiet ∙ ap (λ (e : EngineView D). e.journal) engine_is in
        happened seen may_leave moment left_since failures o.policy o.program o.engine new o.opened o.places o.places o.entries later more c event false e o.is roomy_held.run may same added (ap (λ (v : CoreView D). v.places) o.is ∙ roomy_held.run.places_are ∙ sym stays) gives.entry
        (record {
          stands = gives.stands;
          settings = kept ∙ ap (λ (e : EngineView D). e.store.settings) engine_is;
          goes = subst (λ (r : Option Rec). Goes seen may_leave moment left_since r r c.engine.journal new.journal) (sym unwritten) (goes_same seen may_leave moment left_since c.engine.journal new.journal journal_is);
          later = no_less (failures c.engine.journal.disk) (failures new.journal.disk) (ap (λ (j : Writer D). failures j.disk) journal_is);
          cause = λ fails. absurd cc;
        })
      where
        no_less : (a b : ℕ) → b ≡ a → a ≤ b
        no_less a b e = omega (arith, e)
