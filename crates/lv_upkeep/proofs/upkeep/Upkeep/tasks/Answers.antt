use Rattle.std.proofs.Common.{◌++◌, ◌∙◌, ℕ, List, sym}
use Rattle.lv_tasks.specs.Kept.{pairs_of, tasks_kept}
use Rattle.lv_upkeep.proofs.Candidates.{flat_more}
use Rattle.lv_upkeep.proofs.upkeep.Upkeep.tasks.Goals as goal

pub loop-view-preserved : goal.loop-view-preserved
loop-view-preserved c =
    let pairs : ℕ → List (ℕ × ℕ) = λ v. pairs_of v (tasks_kept c.self.inside.tasks.tasks v) in
    c.in_ok-append.ensures.added ∙ (λ i. c.loop-view.invariant i ++ c.in_ok-list.ensures i) ∙ sym (flat_more pairs c.loop-view.view)
