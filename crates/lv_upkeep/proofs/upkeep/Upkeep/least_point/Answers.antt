use Rattle.std.proofs.Common.{◌∙◌, List, Some, ap}
use Rattle.lv_upkeep.specs.declared.maintained.Maintained.{Maintained}
use Rattle.lv_upkeep.specs.Kept.{UpkeepRoom, least_in}
use Rattle.lv_upkeep.proofs.Points.{first_least, points_of}
use Rattle.lv_upkeep.proofs.upkeep.Upkeep.least_point.Goals as goal

pub returns : goal.returns
returns c =
    ap Some c.least_point.ensures
    ∙ first_least c.as_slice-views.result.now c.in_ok-first.first.now c.in_ok-first.ensures.value
    ∙ ap (λ (ms : List Maintained). least_in (points_of ms)) c.as_slice-views.ensures
    ∙ ap (λ (u : UpkeepRoom). least_in u.kept.points) c.self.view_is
