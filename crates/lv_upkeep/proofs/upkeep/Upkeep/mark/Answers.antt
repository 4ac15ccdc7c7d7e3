use Rattle.std.proofs.Common.{◌<◌, ◌∙◌, List, length, sym, ap, subst}
use Rattle.lv_upkeep.specs.declared.maintained.Maintained.{Maintained}
use Rattle.lv_upkeep.specs.Kept.{UpkeepRoom}
use Rattle.lv_upkeep.specs.Moves.{upkeep_marked}
use Rattle.lv_upkeep.proofs.Made.{made, marked_made}
use Rattle.lv_upkeep.proofs.upkeep.Upkeep.mark.Goals as goal

pub returns-clause-marked : goal.returns-clause-marked
returns-clause-marked c =
    let views = c.self.inside.views.list in
    let claims = c.self.inside.claims in
    let lt = subst (λ (u : UpkeepRoom). c.args.view < length u.kept.points) (sym c.self.view_is) c.requires in
    ap (λ (ms : List Maintained). made ms c.self.inside.tasks.tasks claims) c.set.ensures.replaced
    ∙ marked_made views c.self.inside.tasks.tasks claims c.args.view c.get.result.now lt c.get.ensures
    ∙ ap (λ (u : UpkeepRoom). upkeep_marked c.args.view u.kept) c.self.view_is
