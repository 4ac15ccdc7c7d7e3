use Rattle.std.proofs.Common.{List, [], ◌∷◌, ◌++◌, ap, ◌∙◌}
use Rattle.lv_viewrows.specs.Kept.{ViewKept}
use Rattle.lv_loading.proofs.MadeViews.{made_more}
use Rattle.lv_loading.proofs.parts.Parts.evaluate_all.Goals as goal

pub loop-view-preserved : goal.loop-view-preserved
loop-view-preserved g c =
    made_more c.args.self.now c.loop-view.view c.loop-view.rows.list c.push.new.self.list c.in_ok-made.made c.loop-view.invariant c.in_ok-made.ensures
    (c.push.ensures.added ∙ ap (λ (rows : List ViewKept). rows ++ c.in_ok-made.made ∷ []) c.reserve.ensures.same)
