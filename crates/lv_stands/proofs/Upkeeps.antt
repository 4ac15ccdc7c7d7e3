-- The live snapshots, the planned and the forced steps and the pending tasks, told from what is kept.
use Rattle.std.proofs.Common.{◌≡◌, ℕ, ◌<◌, Bool, List, [], ◌∷◌, map, length, refl, ap, ◌∙◌, arith}
use Rattle.std.specs.List.{flat_map, range_with_len, AllByRecursion}
use Rattle.lv_schema.specs.StepPlans.{forced, is_inside, planned}
use Rattle.lv_schema.specs.Tasks.{pending_now, pending_tasks}
use Rattle.lv_schema.specs.World.{World, Settings, live, view_at}
use Rattle.lv_schema.proofs.Apart.{all_weaker}
use Rattle.lv_tasks.specs.Kept.{pairs_of, tasks_kept}
use Rattle.lv_upkeep.specs.Kept.{forced_in, planned_in, tasks_in}
use Rattle.lv_upkeep.specs.Stands.{task_of}
use Rattle.lv_upkeep.proofs.Told.{planned_is_told, forced_is_told}
use Rattle.lv_stands.specs.Kept.{EngineKept}
use Rattle.lv_stands.specs.Moves.{inside_kept}
use Rattle.lv_stands.specs.Stands.{StandsFor}
use Rattle.lv_stands.proofs.Cleans.{live_kept_is}
use Rattle.lv_stands.proofs.Tasks.{flat_alike}
use Rattle.lv_stands.proofs.Workers.{below_range}

module _ (w : World) (e : EngineKept) (is : StandsFor w e) where
  pub inside_is : inside_kept e ≡ is_inside (live w.visible.sessions)
  inside_is = ap is_inside (live_kept_is w e is)

  pub planned_is : (settings : Settings) (v m : ℕ) → v < length w.visible.views → planned_in (inside_kept e) settings.combine e.upkeep v m ≡ planned settings v w m
  planned_is settings v m lt =
      ap (λ (inside : ℕ → ℕ → Bool). planned_in inside settings.combine e.upkeep v m) inside_is
      ∙ planned_is_told w e.upkeep settings m v is.upkeep_stands lt

  pub forced_are : (settings : Settings) (views : List ℕ) (m : ℕ) → AllByRecursion (λ v. v < length w.visible.views) views → forced_in (inside_kept e) settings.combine e.upkeep views m ≡ forced settings w views m
  forced_are settings views m each =
      ap (λ (inside : ℕ → ℕ → Bool). forced_in inside settings.combine e.upkeep views m) inside_is
      ∙ forced_is_told w e.upkeep settings m views is.upkeep_stands each

  pairs_are : (v : ℕ) (ks : List ℕ) → pairs_of v (map (task_of w.visible (view_at w.visible.views v)) ks) ≡ map (λ k. (v, k)) ks
  pairs_are v [] = refl
  pairs_are v (k ∷ ks) = ap (λ l. (v, k) ∷ l) (pairs_are v ks)

  pub tasks_are : tasks_in e.upkeep ≡ pending_tasks w
  tasks_are =
      ap (λ n. flat_map (λ v. pairs_of v (tasks_kept e.upkeep.tasks v)) (range_with_len 0 n)) is.upkeep_stands.all
      ∙ flat_alike (λ v. map (λ k. (v, k)) (pending_now w v)) (λ v. pairs_of v (tasks_kept e.upkeep.tasks v)) (range_with_len 0 (length w.visible.views))
      (all_weaker (λ v. v < length w.visible.views) (λ v. pairs_of v (tasks_kept e.upkeep.tasks v) ≡ map (λ k. (v, k)) (pending_now w v))
      (λ v lt. ap (pairs_of v) (is.upkeep_stands.each v lt) ∙ pairs_are v (pending_now w v))
      (range_with_len 0 (length w.visible.views))
      (below_range 0 (length w.visible.views) (length w.visible.views) (omega arith)))
