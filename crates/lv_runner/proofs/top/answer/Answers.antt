use Rattle.lv_runner.proofs.HandedOut.{ends_unread, read_first}
use Rattle.lv_runner.proofs.top.answer.Goals as goal

pub returns-in-Ok-clause-ends : goal.returns-in-Ok-clause-ends
returns-in-Ok-clause-ends g c =
    let plan = c.in-Ok.ensures.plan in
    c.open_and_run.ensures.ends (g.S.Source.left c.args.source.now) (g.S.Source.left c.plan_for.new.source) (g.S.Source.faults c.args.source.now) (g.S.Source.faults c.plan_for.new.source) plan.0 plan.1 plan.2.0

pub returns-in-Err-clause-ends : goal.returns-in-Err-clause-ends
returns-in-Err-clause-ends g c =
    ends_unread g.O.Disk.Disk.seen g.O.Disk.Disk.may_leave g.O.Disk.Disk.moment g.O.Disk.Disk.left_since g.O.Disk.Disk.failures c.args.words.now _ _ (g.S.Source.left c.args.source.now) (g.S.Source.left c.plan_for.new.source) (g.K.Sink.written c.args.sink.now)
    (g.S.Source.faults c.args.source.now) (g.S.Source.faults c.plan_for.new.source) (g.K.Sink.faults c.args.sink.now) (g.O.Disks.failures c.args.disks.now) (g.K.Sink.is_flushed c.args.sink.now)
    (g.O.Disks.openings c.args.disks.now) c.in-Err.why c.status_of.result c.status_of.ensures c.in-Err.ensures.plan

pub returns-in-Ok-clause-read : goal.returns-in-Ok-clause-read
returns-in-Ok-clause-read g c = λ unopened.
    let plan = c.in-Ok.ensures.plan in
    record { bytes = plan.0; input = plan.1; program = c.in-Ok.plan.program; script = plan.2.0 }

pub returns-in-Err-clause-read : goal.returns-in-Err-clause-read
returns-in-Err-clause-read g c = λ unopened. absurd (read_first c.in-Err.why c.status_of.result c.status_of.ensures unopened)
