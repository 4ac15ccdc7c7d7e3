use Rattle.std.proofs.Common.{ℕ, ◌∙◌, get_or, sym, ap}
use Rattle.std.specs.Prelude.{min}
use Rattle.lv_upkeep.proofs.Points.{least_more, no_maintained}
use Rattle.lv_upkeep.proofs.maintained.least_point.Goals as goal

pub loop-view-preserved : goal.loop-view-preserved
loop-view-preserved c =
    let views = c.args.views.now in
    let at = c.loop-view.view-index in
    c.min-least.ensures ∙ ap (λ (n : ℕ). min n (get_or views at no_maintained).point) c.loop-view.invariant ∙ sym (least_more c.args.most views at no_maintained c.loop-view-test.true)
