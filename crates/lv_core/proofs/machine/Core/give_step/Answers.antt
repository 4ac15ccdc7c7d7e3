use Rattle.std.proofs.Common.{sym}
use Rattle.lv_core.proofs.Workers.{unclaimed_before}
use Rattle.lv_core.proofs.machine.Core.give_step.Goals as goal

pub returns-then-not-is_set_up-clause-free : goal.returns-then-not-is_set_up-clause-free
returns-then-not-is_set_up-clause-free g c = unclaimed_before g.D.Disk.seen g.D.Disk.may_leave g.D.Disk.moment g.D.Disk.left_since g.D.Disk.failures c.args.self.now.run c.args.worker c.known.ensures (sym c.if-not-is_set_up.ensures)
