-- The record of a mark is taken.
use Rattle.std.proofs.Common.{◌≡◌, ℕ, ◌<◌, ◌≤◌, true, ◌&&◌, nat_lt, nat_le, [], map, length, get_or, sym, ap, ◌∙◌, subst, arith}
use Rattle.std.specs.Prelude.{◌⊎◌, slice_index, slice_set}
use Rattle.std.proofs.lemmas.List.{get_or-set_same, get_or-set_other, length-set}
use mathlib.Core.Logic.{inl, inr}
use Rattle.lv_schema.specs.declared.rec.Rec.TheVariants.{Mark}
use Rattle.lv_schema.specs.StepPlans.{step_of}
use Rattle.lv_schema.specs.Tasks.{pending}
use Rattle.lv_schema.specs.World.{World, last, view_at}
use Rattle.lv_replay.specs.Applies.{mark_applies}
use Rattle.lv_replay.specs.Replayed.{replayed}
use Rattle.lv_replay.proofs.Replays.{replayed_steady, replayed_stopped}
use Rattle.lv_replay.proofs.Tests.{and_left, and_right, lt_of}
use Rattle.lv_tasks.specs.Kept.{tasks_above, tasks_kept}
use Rattle.lv_upkeep.specs.Kept.{UpkeepKept}
use Rattle.lv_upkeep.specs.Moves.{upkeep_marked, upkeep_stepped}
use Rattle.lv_upkeep.specs.Stands.{UpkeepStands, task_of}
use Rattle.lv_stands.proofs.Tasks.{tasks_left}
use Rattle.lv_loading.specs.Loads.{LoadingKept, LoadingStands}

eq_cases : (a b : ℕ) → (a ≡ b) ⊎ (a ≡ b → ⊥)
eq_cases a b = grind arith

module _ (k : LoadingKept) (v upto : ℕ) (w : World) (is : LoadingStands w k) where
  pub mark_told : (nat_lt v (length k.views) && (nat_lt (slice_index k.upkeep.marks v) upto && nat_le upto k.base.number)) ≡ mark_applies v upto w
  mark_told = λ i. nat_lt v (length (is.views_are i)) && (nat_lt (slice_index (is.upkeep_stands.marks_are i) v) upto && nat_le upto (is.base_stands.number_is i))

  module _ (applied : mark_applies v upto w ≡ true) where
    here : v < length w.visible.views
    here = lt_of v (length w.visible.views) (and_left _ _ applied)

    above : get_or w.upkeep.marks v 0 < upto
    above = lt_of (get_or w.upkeep.marks v 0) upto (and_left _ _ (and_right (nat_lt v (length w.visible.views)) _ applied))

    -- nothing is maintained past its mark
    at_marks : w.upkeep.points ≡ w.upkeep.marks
    at_marks = sym (ap (λ (x : World). x.upkeep.points) is.stopped)

    rises : get_or w.upkeep.points v 0 ≤ upto
    rises = omega (arith, above, ap (λ ps. get_or ps v 0) at_marks)

    points_long_there : v < length w.upkeep.points
    points_long_there = omega (arith, here, is.steady.points)

    abbrev kept_then : UpkeepKept
    kept_then = upkeep_marked v (upkeep_stepped (step_of v (slice_index k.upkeep.points v) upto) k.upkeep)

    abbrev then : World
    then = replayed (Mark v upto) w

    tasks_at : (u : ℕ) → u < length w.visible.views → (u ≡ v) ⊎ (u ≡ v → ⊥)
        → get_or (slice_set k.upkeep.tasks v (tasks_above upto (tasks_kept k.upkeep.tasks v))) u []
        ≡ map (task_of w.visible (view_at w.visible.views u)) (pending w.visible (view_at w.visible.views u) (get_or (slice_set w.upkeep.points v upto) u 0) (last w.visible))
    tasks_at u lt (inl e) =
        subst (λ x. get_or (slice_set k.upkeep.tasks v (tasks_above upto (tasks_kept k.upkeep.tasks v))) x []
        ≡ map (task_of w.visible (view_at w.visible.views x)) (pending w.visible (view_at w.visible.views x) (get_or (slice_set w.upkeep.points v upto) x 0) (last w.visible))) (sym e)
        (get_or-set_same k.upkeep.tasks v (tasks_above upto (tasks_kept k.upkeep.tasks v)) [] (omega (arith, here, is.upkeep_stands.all))
        ∙ ap (tasks_above upto) (is.upkeep_stands.each v here)
        ∙ tasks_left w.visible (view_at w.visible.views v) (get_or w.upkeep.points v 0) upto rises
        ∙ ap (λ p. map (task_of w.visible (view_at w.visible.views v)) (pending w.visible (view_at w.visible.views v) p (last w.visible))) (sym (get_or-set_same w.upkeep.points v upto 0 points_long_there)))
    tasks_at u lt (inr ne) =
        get_or-set_other k.upkeep.tasks v u (tasks_above upto (tasks_kept k.upkeep.tasks v)) [] ne
        ∙ is.upkeep_stands.each u lt
        ∙ ap (λ p. map (task_of w.visible (view_at w.visible.views u)) (pending w.visible (view_at w.visible.views u) p (last w.visible))) (sym (get_or-set_other w.upkeep.points v u upto 0 ne))

    upkeep_then : UpkeepStands then kept_then
    upkeep_then = record {
      points_are = ap (λ ps. slice_set ps v upto) is.upkeep_stands.points_are;
      marks_are = (λ i. slice_set (is.upkeep_stands.marks_are i) v (get_or (slice_set (is.upkeep_stands.points_are i) v upto) v 0)) ∙ ap (slice_set w.upkeep.marks v) (get_or-set_same w.upkeep.points v upto 0 points_long_there);
      claims_are = is.upkeep_stands.claims_are;
      all = length-set k.upkeep.tasks v (tasks_above upto (tasks_kept k.upkeep.tasks v)) ∙ is.upkeep_stands.all;
      each = λ u lt. tasks_at u lt (eq_cases u v);
    }

    pub mark_taken : v < 256 → LoadingStands (replayed (Mark v upto) w) (record k { upkeep = upkeep_marked v (upkeep_stepped (step_of v (slice_index k.upkeep.points v) upto) k.upkeep) })
    mark_taken few = record {
      steady = replayed_steady (Mark v upto) w is.steady is.stopped few applied;
      stopped = replayed_stopped (Mark v upto) w is.stopped;
      tables_are = is.tables_are;
      views_are = is.views_are;
      base_stands = is.base_stands;
      upkeep_stands = upkeep_then;
    }
