-- What a crash may leave of a run opens.
use Rattle.std.proofs.Common.{◌≡◌, ℕ, true, List, [], ◌∷◌, ◌++◌, map, Option, None, sym, subst, arith}
use Rattle.std.proofs.lemmas.List.{append-nil}
use Rattle.lv_core.specs.Run.{CoreView, IsLeftOf, IsRun, asked_of, rules_of, world_of}
use Rattle.lv_core.proofs.Binds.{reads_binds}
use Rattle.lv_crash.specs.Attempts.{MayStay, attempts_of}
use Rattle.lv_crash.proofs.Staying.{all_stay}
use Rattle.lv_engine.specs.Fresh.{IsFresh, world_kept}
use Rattle.lv_engine.specs.Kept.{EngineView}
use Rattle.lv_engine.specs.Records.{HasRecords, IsJournalWith}
use Rattle.lv_journal.proofs.Meaning.{closed_means}
use Rattle.lv_record.specs.Spelling.{spelling}
use Rattle.lv_recover.specs.Opening.{OpensAs}
use Rattle.lv_replay.specs.Applies.{all_apply}
use Rattle.lv_plain.specs.declared.entry.Entry.{Entry}
use Rattle.lv_plain.specs.Legal.{begun}
use Rattle.lv_plain.specs.Limits.{IsWithinLimits}
use Rattle.lv_plain.specs.Rules.{Rules}
use Rattle.lv_plain.specs.Turns.{IsBinding}
use Rattle.lv_replay.specs.Replayed.{durable, state_of}
use Rattle.lv_replay.specs.Runs.{IsStopped}
use Rattle.lv_schema.specs.declared.rec.Rec.{Rec}
use Rattle.lv_schema.specs.Steady.{IsSteady}
use Rattle.lv_schema.specs.World.{World}
use Rattle.lv_stands.specs.Kept.{EngineKept}
use Rattle.lv_runner.specs.Opened.{LeavesRun, OpensWith}

-- a journal whose records apply opens
opens_as : (recs : List Rec) (bytes : List ℕ) → IsJournalWith recs bytes → all_apply recs ≡ true → OpensAs bytes recs
opens_as recs [] h apply = absurd (let none = h.journal.good in cc)
opens_as recs (byte ∷ bytes) h apply = record { good = h.journal.good; spelled = record { spelled = h.spelled; payloads_are = h.journal.all; apply = apply } }

-- a fresh engine's world is one that a stop leaves as it is
fresh_stopped : (e : EngineKept) → IsFresh e → durable (world_kept e) ≡ world_kept e
fresh_stopped e fresh = λ i. let w = world_kept e in record {
  visible = w.visible;
  upkeep = record w.upkeep { points = sym fresh.marked i; claims = sym fresh.unclaimed i };
}

-- what a crash may leave of a run applies
abbrev pub CrashLaw : Type 0
CrashLaw = (rules : Rules) (recs : List Rec) (es : List Entry) → IsBinding rules.reading → IsWithinLimits rules.program → all_apply recs ≡ true → IsSteady (state_of recs) → IsStopped (state_of recs)
    → (more : List Rec) → MayStay (attempts_of rules (begun rules (state_of recs)) es) more → all_apply (recs ++ more) ≡ true

module _ {D : Type 0} (seen : D → Option (List ℕ)) (may_leave : D → List ℕ → Type 0) (moment : D → ℕ) (left_since : D → ℕ → List ℕ → Type 0) (failures : D → ℕ) where
  module _ (law : CrashLaw) (c : CoreView D) (run : IsRun seen may_leave moment left_since failures c) (recs : List Rec) (apply : all_apply recs ≡ true) (world : world_of c.opened ≡ state_of recs) where
    steady : IsSteady (state_of recs)
    steady = subst IsSteady world run.begins.store_stands.steady

    stopped : IsStopped (state_of recs)
    stopped = subst IsStopped world (fresh_stopped _ run.opening)

    applies_too : (more : List Rec) → MayStay (asked_of c) more → all_apply (recs ++ more) ≡ true
    applies_too more stay =
        let rules = rules_of c.settings c.program in
        law rules recs c.entries reads_binds run.within apply steady stopped more (subst (λ (w : World). MayStay (attempts_of rules (begun rules w) c.entries) more) world stay)

    opens_with : (bytes : List ℕ) → IsLeftOf recs (asked_of c) bytes → OpensWith recs (asked_of c) bytes
    opens_with bytes left = record { more = left.more; stay = left.stay; opens = opens_as (recs ++ left.more) bytes left.journal (applies_too left.more left.stay) }

    pub leaves_run : HasRecords seen may_leave recs None c.opened.journal → LeavesRun moment left_since recs (asked_of c) c.engine.journal.disk
    leaves_run had =
        let logged = run.records recs had in
        record { began = moment c.opened.journal.disk; later = logged.later; each = λ bytes left. opens_with bytes (logged.left bytes left) }

  -- of a run that has not begun
  pub leaves_none : ((disk : D) (bytes : List ℕ) → left_since disk (moment disk) bytes → may_leave disk bytes) → (e : EngineView D) (recs : List Rec) → HasRecords seen may_leave recs None e.journal → all_apply recs ≡ true
      → LeavesRun moment left_since recs [] e.journal.disk
  leaves_none only_now e recs had apply = record {
    began = moment e.journal.disk;
    later = omega arith;
    each = λ bytes left. record {
      more = [];
      stay = all_stay [];
      opens = subst (OpensAs bytes) (sym (append-nil recs))
          (opens_as recs bytes (record { spelled = had.spelled; journal = closed_means (map spelling recs) bytes had.stands.payloads (had.stands.images bytes (only_now e.journal.disk bytes left)) }) apply);
    };
  }
