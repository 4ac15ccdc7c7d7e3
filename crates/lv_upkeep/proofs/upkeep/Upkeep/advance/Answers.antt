use Rattle.std.proofs.Common.{◌<◌, ◌∙◌, List, length, sym, ap, subst, slice_index, slice_set}
use Rattle.lv_schema.specs.StepPlans.{step_of}
use Rattle.lv_tasks.specs.declared.task.Task.{Task}
use Rattle.lv_upkeep.specs.declared.maintained.Maintained.{Maintained}
use Rattle.lv_upkeep.specs.Kept.{UpkeepRoom}
use Rattle.lv_upkeep.specs.Moves.{upkeep_stepped}
use Rattle.lv_upkeep.proofs.Made.{made, stepped_made}
use Rattle.lv_upkeep.proofs.upkeep.Upkeep.advance.Goals as goal

pub returns-clause-moved : goal.returns-clause-moved
returns-clause-moved c =
    let views = c.self.inside.views.list in
    let tasks = c.self.inside.tasks.tasks in
    let claims = c.self.inside.claims in
    let view = c.args.view in
    let lo = slice_index c.args.self.now.kept.points view in
    let before = c.get.result.now in
    let after : Maintained = record { point = c.args.hi; mark = before.mark } in
    let lt = subst (λ (u : UpkeepRoom). view < length u.kept.points) (sym c.self.view_is) c.requires in
    ap (λ (ms : List Maintained). made ms c.drop_to.new.self.tasks claims) c.set.ensures.replaced
    ∙ ap (λ (ts : List (List Task)). made (slice_set views view after) ts claims) c.drop_to.ensures.rest
    ∙ stepped_made views tasks claims view lo c.args.hi before lt c.get.ensures
    ∙ ap (λ (u : UpkeepRoom). upkeep_stepped (step_of view lo c.args.hi) u.kept) c.self.view_is
