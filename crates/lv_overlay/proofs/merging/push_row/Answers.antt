use Rattle.std.proofs.Common.{sym, ◌∙◌}
use Rattle.lv_overlay.proofs.MergeSteps.{from_next, over_step, row_step}
use Rattle.lv_overlay.proofs.merging.push_row.Goals as goal

pub returns-in_ok-push_written-clause-within : goal.returns-in_ok-push_written-clause-within
returns-in_ok-push_written-clause-within c = from_next c.args.table.now.no c.args.at c.args.overlay.now.list c.requires.table

pub returns-in_ok-push_written-clause-rows : goal.returns-in_ok-push_written-clause-rows
returns-in_ok-push_written-clause-rows c = λ others rise.
    over_step c.args.table.now.key c.args.table.now.no c.args.overlay.now.list c.args.at c.requires.order c.args.row others c.args.rows.now c.push_written.new.rows
    (sym c.is_same.ensures.is ∙ c.if-is_same.true) c.in_ok-push_written.ensures rise

pub returns-in_ok-push-clause-rows : goal.returns-in_ok-push-clause-rows
returns-in_ok-push-clause-rows c = λ others rise.
    row_step c.args.table.now.key c.args.table.now.no c.args.overlay.now.list c.args.at c.requires.order c.args.row others c.args.rows.now c.push.new.self
    c.requires.table c.requires.none (sym c.is_same.ensures.is ∙ c.if-is_same.false) c.in_ok-push.ensures.added rise
