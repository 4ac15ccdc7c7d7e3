use Rattle.lv_core.proofs.Known.{setup_alone, unfailed}
use Rattle.lv_core.proofs.machine.Core.known.Goals as goal

pub returns-clause-unfailed : goal.returns-clause-unfailed
returns-clause-unfailed g c = unfailed g.D.Disk.seen g.D.Disk.may_leave g.D.Disk.moment g.D.Disk.left_since g.D.Disk.failures c.args.self.now.run c.known.ensures

pub returns-clause-idle : goal.returns-clause-idle
returns-clause-idle g c = setup_alone g.D.Disk.seen g.D.Disk.may_leave g.D.Disk.moment g.D.Disk.left_since g.D.Disk.failures c.args.self.now.run c.known.ensures
