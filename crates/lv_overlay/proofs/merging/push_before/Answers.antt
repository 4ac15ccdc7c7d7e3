use Rattle.std.proofs.Common.{sym, ◌∙◌}
use Rattle.lv_overlay.proofs.MergeSteps.{before_step, from_next}
use Rattle.lv_overlay.proofs.merging.push_before.Goals as goal

pub each-preserved : goal.each-preserved
each-preserved c = record {
  from = λ f. from_next c.args.table.now.no c.each.at c.args.overlay.now.list (c.each.invariant.from f);
  rows = λ others rise.
      before_step c.args.table.now.key c.args.table.now.no c.args.overlay.now.list c.each.at c.requires.order c.args.row.now others c.each.rows c.push_written.new.rows
      (sym c.is_less.ensures.is ∙ c.each-test.true) c.in_ok-push_written.ensures rise
      ∙ c.each.invariant.rows others rise;
}
