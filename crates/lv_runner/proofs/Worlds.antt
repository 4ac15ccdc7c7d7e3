-- The world that a run begins in, and the records that its disk tells.
use Rattle.std.proofs.Common.{◌≡◌, ℕ, ◌+◌, ◌-◌, ◌^◌, ◌≤◌, List, ◌++◌, map, sym, ap, ◌∙◌, subst, arith}
use Rattle.std.specs.Prelude.{min, true, Option, Some, None, option_map}
use Rattle.lv_core.proofs.FromRecords.{world_is}
use Rattle.lv_core.specs.Run.{CoreView, IsOpening, IsRun, asked_of, failures_shown, first_state, rules_of, world_of, written_of}
use Rattle.lv_crash.specs.Attempts.{attempts_of}
use Rattle.lv_engine.specs.Kept.{EngineView}
use Rattle.lv_engine.specs.Records.{HasRecords}
use Rattle.lv_journal.proofs.Meaning.{told_in}
use Rattle.lv_plain.specs.declared.program.Program.{Program}
use Rattle.lv_plain.specs.Legal.{begun}
use Rattle.lv_plain.specs.WrittenRecords.{records_of}
use Rattle.lv_record.specs.Spelling.{spelling}
use Rattle.lv_replay.specs.Applies.{all_apply}
use Rattle.lv_replay.specs.Replayed as replay
use Rattle.lv_schema.specs.declared.rec.Rec.{Rec}
use Rattle.lv_words.specs.declared.words.Words.{Words as SaidWords}
use Rattle.lv_runner.specs.Begun.{HasBegun}
use Rattle.lv_runner.specs.Opened.{LeavesRun, TellsRecords}
use Rattle.lv_runner.specs.Output.{begin_state, run_rules, settings_in}
use Rattle.lv_runner.specs.Written.{HasEntries, attempts_from, records_from}
use Rattle.lv_runner.proofs.Crashes.{CrashLaw, leaves_run}

module _ {D : Type 0} (seen : D → Option (List ℕ)) (may_leave : D → List ℕ → Type 0) (moment : D → ℕ) (left_since : D → ℕ → List ℕ → Type 0) (failures : D → ℕ) where
  -- ---- what a run began with

  -- a core's run for these words of this program, which began over an engine that these records make, and whose disk has
  -- failed at least so often
  pub record IsFrom (w : SaidWords) (p : Program) (recs : List Rec) (count : ℕ) (c : CoreView D) : Type 0 where
    pub program : c.program ≡ p
    pub settings : c.settings ≡ settings_in w
    pub world : world_of c.opened ≡ replay.state_of recs
    pub had : HasRecords seen may_leave recs None c.opened.journal
    pub counted : count ≤ failures c.opened.journal.disk
    pub apply : all_apply recs ≡ true
    pub crash : CrashLaw

  module _ (w : SaidWords) (p : Program) (recs : List Rec) (count : ℕ) (c : CoreView D) (run : IsRun seen may_leave moment left_since failures c) (from : IsFrom w p recs count c) where
    pub rules_are : rules_of c.settings c.program ≡ run_rules w p
    rules_are i = rules_of (from.settings i) (from.program i)

    pub first_is : first_state c ≡ begin_state w p (replay.state_of recs)
    first_is i = begun (rules_are i) (from.world i)

    -- the disk tells the records of the entries
    tells : TellsRecords (recs ++ written_of c) (seen c.engine.journal.disk) (may_leave c.engine.journal.disk)
    tells =
        let there = run.records recs from.had in
        let stands = there.has.stands in
        record {
          doubt = there.doubt;
          has = told_in (map spelling (recs ++ written_of c)) (option_map spelling there.doubt) (seen c.engine.journal.disk) stands.payloads stands.doubtful stands.told;
          images = λ bytes left. told_in (map spelling (recs ++ written_of c)) (option_map spelling there.doubt) (Some bytes) stands.payloads stands.doubtful (stands.images bytes left);
        }

    asked_are : asked_of c ≡ attempts_from w p (replay.state_of recs) c.entries
    asked_are i = attempts_of (rules_are i) (first_is i) c.entries

    written_are : written_of c ≡ records_from w p (replay.state_of recs) c.entries
    written_are i = records_of (rules_are i) (first_is i) c.entries

    rises : min (count + failures_shown c.entries) (2 ^ 64 - 1) ≤ failures c.engine.journal.disk
    rises = omega (arith, from.counted, run.caused)

    pub has_entries : HasEntries seen may_leave moment left_since failures w p (replay.state_of recs) recs c.entries count c.engine.journal.disk
    has_entries = record {
      records = subst (λ rs. TellsRecords (recs ++ rs) (seen c.engine.journal.disk) (may_leave c.engine.journal.disk)) written_are tells;
      left = subst (λ attempts. LeavesRun moment left_since recs attempts c.engine.journal.disk) asked_are (leaves_run seen may_leave moment left_since failures from.crash c run recs from.apply from.world from.had);
      caused = rises;
    }

  -- ---- the engine that was opened, and a core that goes on from it
  module _ (w : SaidWords) (told : Option (List ℕ)) (bytes : List ℕ) (p : Program) (count : ℕ) (e : EngineView D) (begun_ : HasBegun seen may_leave moment left_since failures told bytes p count e)
      (crash_law : CrashLaw) (fresh : IsOpening e) where
    pub from_opened : (c : CoreView D) → c.program ≡ p → c.settings ≡ settings_in w → c.opened ≡ e → IsFrom w p begun_.recs count c
    from_opened c program settings opened = record {
      program = program;
      settings = settings;
      world = ap world_of opened ∙ sym (world_is e (replay.state_of begun_.recs) fresh begun_.reopened.stands);
      had = subst (λ (o : EngineView D). HasRecords seen may_leave begun_.recs None o.journal) (sym opened) begun_.reopened.records;
      counted = subst (λ (o : EngineView D). count ≤ failures o.journal.disk) (sym opened) begun_.counted;
      apply = begun_.reopened.apply;
      crash = crash_law;
    }
