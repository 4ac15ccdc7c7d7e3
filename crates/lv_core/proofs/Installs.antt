-- A worker's step is installed, if it has claimed one; a clean-up may follow.
use Rattle.std.proofs.Common.{◌≡◌, ℕ, ◌+◌, ◌≤◌, Bool, true, false, List, [], ◌∷◌, ◌++◌, Option, None, refl, sym, ap, ◌∙◌, subst, arith}
use Rattle.lv_schema.specs.UpkeepCases.{claim_of}
use Rattle.lv_plain.specs.declared.entry.Entry.{Entry}
use Rattle.lv_plain.specs.declared.event.Event.TheVariants.{Install as install_of, Clean as clean_up}
use Rattle.lv_plain.specs.Legal.{IsWorker}
use Rattle.lv_plain.specs.Machine.{State}
use Rattle.lv_plain.specs.Programs.{setup_answered}
use Rattle.lv_engine.specs.Kept.{EngineView}
use Rattle.lv_core.specs.Actors.{CleansIf, Installs, shows_install}
use Rattle.lv_core.specs.Answering.{GivesEntry}
use Rattle.lv_core.specs.Run.{CoreView, Gave, IsRoomy, state_of, view_of}
use Rattle.lv_core.proofs.Happened.{given_by, roomy}
use Rattle.lv_core.proofs.Held.{OpenRun, gave, open_run, setup_held, stands_held}
use Rattle.lv_core.proofs.WorkerAnswers.{worker_there}
use Rattle.lv_core.proofs.Workers.{installed_free}

module _ {D : Type 0} {seen : D → Option (List ℕ)} {may_leave : D → List ℕ → Type 0} {moment : D → ℕ} {left_since : D → ℕ → List ℕ → Type 0} {failures : D → ℕ} (o : OpenRun seen may_leave moment left_since failures) (worker : ℕ) (may : IsWorker worker)
    (setup : setup_answered o.run.program o.run.places ≡ true) (later more : List Entry) (new : EngineView D) (e : Entry) (same : later ≡ o.entries) (added : more ≡ later ++ e ∷ []) (settings : new.store.settings ≡ o.engine.store.settings) (journal : new.journal ≡ o.engine.journal)
    (gives : GivesEntry (given_by false o.run (install_of worker)) new e) where
  abbrev pub middle : CoreView D
  middle = view_of o.policy o.program new o.opened o.places more

  pub gave_install : Gave seen may_leave moment left_since failures (install_of worker) o.run middle
  gave_install =
      gave o (install_of worker) later more new e (may, setup_held o setup) refl refl same added settings journal gives

  pub roomy_middle : (room left : ℕ) → 10 ≤ room → left + 1 ≡ room → IsRoomy seen may_leave moment left_since failures middle left
  roomy_middle room left enough taken = roomy seen may_leave moment left_since failures middle room left gave_install.run (omega (arith, enough)) taken

  pub free_middle : claim_of (state_of middle).world.upkeep worker ≡ None
  free_middle =
      ap (λ (s : State). claim_of s.world.upkeep worker) gave_install.state
      ∙ installed_free worker (state_of o.run).world.upkeep (worker_there (state_of o.run).world o.engine worker (stands_held o) may.1)

  shown : (b : Bool) → b ≡ shows_install e → shows_install (given_by false o.run (install_of worker)).entry ≡ b
  shown b is = sym (is ∙ ap shows_install gives.entry)

  pub installs_alone : (b : Bool) → b ≡ shows_install e → b ≡ false → Installs seen may_leave moment left_since failures worker o.run middle
  installs_alone b shows is = record { mid = middle; gave = gave_install; cleans = subst (λ (t : Bool). CleansIf seen may_leave moment left_since failures t middle middle) (sym (shown b shows ∙ is)) refl }

  -- ---- the clean-up
  module _ (room left : ℕ) (enough : 10 ≤ room) (taken : left + 1 ≡ room) (last : EngineView D) (most : List Entry) (x : Entry) (joined : most ≡ more ++ x ∷ []) (kept : last.store.settings ≡ new.store.settings) (quiet : last.journal ≡ new.journal)
      (shows : GivesEntry (given_by false middle clean_up) last x) where
    abbrev pub end : CoreView D
    end = view_of o.policy o.program last o.opened o.places most

    pub gave_clean : Gave seen may_leave moment left_since failures clean_up middle end
    gave_clean =
        let between : OpenRun seen may_leave moment left_since failures = open_run o.policy o.program new o.opened o.places more left middle (roomy_middle room left enough taken) refl in
        let answered : setup_answered o.program o.places ≡ true = subst (λ (c : CoreView D). setup_answered c.program c.places ≡ true) (sym o.is) setup in
        gave between clean_up more most last x (setup_held between answered) refl refl refl joined kept quiet shows

    pub roomy_end : (rest : ℕ) → rest + 1 ≡ left → IsRoomy seen may_leave moment left_since failures end rest
    roomy_end rest gone = roomy seen may_leave moment left_since failures end left rest gave_clean.run (omega (arith, enough, taken)) gone

    pub free_end : claim_of (state_of end).world.upkeep worker ≡ None
    free_end = ap (λ (s : State). claim_of s.world.upkeep worker) gave_clean.state ∙ free_middle

    pub installs_and_cleans : (b : Bool) → b ≡ shows_install e → b ≡ true → Installs seen may_leave moment left_since failures worker o.run end
    installs_and_cleans b shown_by is = record { mid = middle; gave = gave_install; cleans = subst (λ (t : Bool). CleansIf seen may_leave moment left_since failures t middle end) (sym (shown b shown_by ∙ is)) gave_clean }
