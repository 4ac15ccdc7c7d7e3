use Rattle.std.proofs.Common.{sym, ◌∙◌, ap}
use Rattle.lv_schema.specs.Commits.{Place}
use Rattle.lv_overlay.specs.Ordered.{is_there}
use Rattle.lv_overlay.proofs.Cutting.{read_none, read_some}
use Rattle.lv_overlay.proofs.overlay.Overlay.get.Goals as goal

pub returns-then-has_at : goal.returns-then-has_at
returns-then-has_at c =
    let p : Place = (c.args.table, c.args.key.now) in
    read_some p c.cut-at.result c.at.result.now c.args.self.now.list c.cut-at.ensures.order c.cut-at.ensures.cut c.at.ensures
    (ap (is_there p) (sym c.at.ensures) ∙ sym c.has_at.ensures ∙ c.if-has_at.true)

pub returns-else-has_at : goal.returns-else-has_at
returns-else-has_at c =
    read_none (c.args.table, c.args.key.now) c.cut-at.result c.args.self.now.list c.cut-at.ensures.order c.cut-at.ensures.cut (sym c.has_at.ensures ∙ c.if-has_at.false)
