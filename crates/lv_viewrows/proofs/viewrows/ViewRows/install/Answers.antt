use Rattle.std.proofs.Common.{arith}
use Rattle.lv_viewrows.proofs.Keeping.{can_still}
use Rattle.lv_viewrows.proofs.viewrows.ViewRows.install.Goals as goal

pub install_in_place-requires-clause-change : goal.install_in_place-requires-clause-change
install_in_place-requires-clause-change c =
    can_still c.args.self.now c.opens.new.self c.args.hi c.args.changes c.opens.ensures.def c.opens.ensures.at (c.opens.ensures.stays c.args.self.now.at (omega arith)) c.requires.change

pub install_beside-requires-else-opens-clause-change : goal.install_beside-requires-else-opens-clause-change
install_beside-requires-else-opens-clause-change c =
    can_still c.args.self.now c.opens.new.self c.args.hi c.args.changes c.opens.ensures.def c.opens.ensures.at (c.opens.ensures.stays c.args.self.now.at (omega arith)) c.requires.change
