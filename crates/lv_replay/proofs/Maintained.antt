-- What a stop leaves after maintenance.
use Rattle.std.proofs.Common.{◌≡◌, ℕ, ◌<◌, ◌≤◌, Bool, true, false, cond, List, [], ◌∷◌, length, Option, Some, None, refl, arith}
use Rattle.std.specs.Prelude.{◌==◌, slice_index, Ok}
use Rattle.std.proofs.lemmas.Bool.Decides.{nat_tests}
use Rattle.lv_schema.specs.declared.forced.Forced.{Forced}
use Rattle.lv_schema.specs.declared.pending.Pending.{Pending}
use Rattle.lv_schema.specs.declared.rec.Rec.{Rec}
use Rattle.lv_schema.specs.Cases.{Outcome, good, failed, full}
use Rattle.lv_schema.specs.Policies.{unclaimed}
use Rattle.lv_schema.specs.Steady.{IsSteady}
use Rattle.lv_schema.specs.StepPlans.{planned}
use Rattle.lv_schema.specs.UpkeepCases.{claim_of, chosen_view, Installed, installed, moved, with_claim, with_steps, fetched_step, fetch_among, fetch_by, fetching, install_by, installing, mark_record, Marking, marked_by, marking}
use Rattle.lv_schema.specs.World.{Upkeep, World, Settings, last, point}
use Rattle.lv_replay.specs.Runs.{Keeps, mark_written}
use Rattle.lv_replay.proofs.Tests.{both, lt_test, le_test}

module _ (w : World) where
  abbrev Same : Upkeep → Type 0
  Same u = Keeps None w (record { visible = w.visible; upkeep = u })

  abbrev Does : Marking → Type 0
  Does m = Keeps (mark_written m) w (record { visible = w.visible; upkeep = m.next })

  pub fetched_keeps : (settings : Settings) (worker : ℕ) → Same (fetching settings worker w).1
  fetched_keeps settings worker = by (claim_of w.upkeep worker)
    where
      stepped : (x : Option Forced) → Same (fetched_step x worker w.upkeep).1
      stepped None = refl
      stepped (Some f) = refl

      among : (ps : List Pending) → Same (fetch_among ps settings worker w).1
      among [] = refl
      among (p ∷ ps) = stepped (planned settings (chosen_view settings.policy w) w (last w.visible))

      by : (x : Option Forced) → Same (fetch_by x settings worker w).1
      by (Some f) = refl
      by None = among (unclaimed w)

  pub installed_keeps : (worker : ℕ) → Same (installing worker w.upkeep).1
  installed_keeps worker = by (claim_of w.upkeep worker)
    where
      where_it_is : (f : Forced) (t : Bool)
          → Same (cond {A = Installed × Upkeep} t (installed f, with_claim worker None (with_steps (f ∷ []) w.upkeep)) (moved f (point w.upkeep f.view), with_claim worker None w.upkeep)).1
      where_it_is f true = refl
      where_it_is f false = refl

      by : (x : Option Forced) → Same (install_by x worker w.upkeep).1
      by None = refl
      by (Some f) = where_it_is f (point w.upkeep f.view == f.lo)

  pub marked_keeps : (outcome : Rec → Outcome) (v : ℕ) → IsSteady w → v < length w.visible.views
      → Keeps (mark_written (marking outcome v w.upkeep)) w (record { visible = w.visible; upkeep = (marking outcome v w.upkeep).next })
  marked_keeps outcome v steady lt = by (slice_index w.upkeep.marks v == point w.upkeep v) refl
    where
      above : (a b : ℕ) → (a == b) ≡ false → a ≤ b → a < b
      above a b e le = grind (arith, nat_tests)

      written : (slice_index w.upkeep.marks v == point w.upkeep v) ≡ false → (out : Outcome) → Does (marked_by out v w.upkeep)
      written e good =
          let at = steady.views v lt in (
            both _ _ (lt_test _ _ lt) (both _ _ (lt_test _ _ (above (slice_index w.upkeep.marks v) (point w.upkeep v) e at.marked)) (le_test _ _ at.within)),
            refl,
          )
      written e failed = refl
      written e (full need limit) = refl

      by : (t : Bool) → (slice_index w.upkeep.marks v == point w.upkeep v) ≡ t
          → Does (cond {A = Marking} t (record { answer = Ok None; next = w.upkeep; attempted = None }) (marked_by (outcome (mark_record v w.upkeep)) v w.upkeep))
      by true e = refl
      by false e = written e (outcome (mark_record v w.upkeep))
