use Rattle.lv_core.proofs.Workers.{free_after}
use Rattle.lv_core.proofs.machine.Core.take_step.Goals as goal

pub returns-clause-free : goal.returns-clause-free
returns-clause-free g c = λ none. free_after g.D.Disk.seen g.D.Disk.may_leave g.D.Disk.moment g.D.Disk.left_since g.D.Disk.failures c.end_claim.new.self c.take_fetched.new.self.run c.args.worker c.take_fetched.result c.take_fetched.ensures.done none c.end_claim.ensures.free
