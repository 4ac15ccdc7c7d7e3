use Rattle.std.proofs.Common.{◌∙◌}
use Rattle.lv_query.proofs.WholeRows.{whole_step}
use Rattle.lv_query.proofs.alone.is_whole.Goals as goal

pub loop-i-preserved : goal.loop-i-preserved
loop-i-preserved c = c.loop-i.invariant ∙ whole_step c.loop-i.i c.args.list.now (record { alias = 0; column = 0 }) c.loop-i-test.true c.if-col-ne0.false c.if-col-i.false
