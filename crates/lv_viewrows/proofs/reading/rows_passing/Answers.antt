use Rattle.std.proofs.Common.{ap, ◌∙◌}
use Rattle.lv_values.specs.Ascending.{ascending}
use Rattle.lv_values.specs.Order.{row_cmp}
use Rattle.lv_viewrows.specs.Kept.{groups_at}
use Rattle.lv_viewrows.specs.Merged.{merged}
use Rattle.lv_viewrows.proofs.Passing.{group_passing, join_passing}
use Rattle.lv_viewrows.proofs.reading.rows_passing.Goals as goal
use Rattle.lv_viewrows.proofs.reading.rows_passing.Goals.{then-view, else-view}

pub returns : goal.returns
returns g c =
    let view = c.args.view.now in
    let p = g.T.Test.passed c.args.test.now in
    let groups = merged c.args.changes.now (groups_at c.args.n c.args.versions.now) in
    elim c.if-view.branch [
      | then-view w ↦ w.rows-is ∙ w.sort.ensures ∙ ap (ascending row_cmp) c.in_ok-rows.ensures ∙ group_passing view p groups w.if-view.true
      | else-view w ↦ w.rows-is ∙ c.in_ok-rows.ensures ∙ join_passing view p groups w.if-view.false
    ]
