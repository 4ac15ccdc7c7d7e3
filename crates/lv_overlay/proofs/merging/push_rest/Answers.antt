use Rattle.std.proofs.Common.{sym, ◌∙◌}
use Rattle.lv_overlay.proofs.MergeSteps.{from_next, rest_end, rest_step}
use Rattle.lv_overlay.proofs.merging.push_rest.Goals as goal

pub each-preserved : goal.each-preserved
each-preserved c = record {
  from = from_next c.args.table.now.no c.each.at c.args.overlay.now.list c.each.invariant.from;
  rows =
      rest_step c.args.table.now.key c.args.table.now.no c.args.overlay.now.list c.each.at c.requires.order c.each.rows c.push_written.new.rows
      (sym c.is_of.ensures.is ∙ c.each-test.true) c.in_ok-push_written.ensures
      ∙ c.each.invariant.rows;
}

pub returns : goal.returns
returns c =
    rest_end c.args.table.now.key c.args.table.now.no c.args.overlay.now.list c.each.at c.requires.order c.each.rows
    _ c.each.invariant.from (sym c.is_of.ensures.is ∙ c.each-test.false) c.each.invariant.rows
