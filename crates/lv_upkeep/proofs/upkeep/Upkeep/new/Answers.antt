use Rattle.std.proofs.Common.{◌≤◌, ◌∙◌, List, length, sym, ap, subst, arith}
use Rattle.lv_tasks.specs.Kept.{TasksKept, tasks_kept}
use Rattle.lv_upkeep.specs.declared.maintained.Maintained.{Maintained}
use Rattle.lv_upkeep.proofs.Made.{none_kept}
use Rattle.lv_upkeep.proofs.upkeep.Upkeep.new.Goals as goal

pub invariant_of-result : goal.invariant_of-result
invariant_of-result c = (
  subst (λ (l : List Maintained). length l ≤ 32) (sym c.new.ensures) (omega arith),
  ap (λ (t : TasksKept). length t.tasks) c.new-2.ensures,
  λ v h. ap (λ (t : TasksKept). tasks_kept t.tasks v) c.new-2.ensures ∙ none_kept 32 v,
)
