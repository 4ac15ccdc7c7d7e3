use Rattle.std.proofs.Common.{◌∙◌}
use Rattle.lv_shelf.proofs.Orders.{taken_pass}
use Rattle.lv_shelf.proofs.order.keep_taken.Goals as goal

pub returns-clause-kept : goal.returns-clause-kept
returns-clause-kept g c = c.keep_passing.ensures.kept ∙ taken_pass c.args.slots.now c.args.order.now.list
