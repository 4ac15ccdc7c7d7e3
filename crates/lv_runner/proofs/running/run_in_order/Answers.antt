use Rattle.std.proofs.Common.{Err, ap}
use Rattle.lv_runner.specs.declared.status.Status.TheVariants.{Done, SinkFault, NoMemory}
use Rattle.lv_runner.proofs.Outputs.{has_run}
use Rattle.lv_runner.proofs.running.run_in_order.Goals as goal

pub returns-in-Ok-clause-ends : goal.returns-in-Ok-clause-ends
returns-in-Ok-clause-ends g c =
    let gave = c.give_back.ensures in
    let done = c.in-Ok.ensures in
    has_run g.D.Disk.seen g.D.Disk.may_leave g.D.Disk.moment g.D.Disk.left_since g.D.Disk.failures c.args.core.run c.write_run.new.core.run c.args.events.now (g.K.Sink.written c.args.sink.now) (g.K.Sink.written c.write_run.new.sink)
    (g.K.Sink.is_flushed c.write_run.new.sink) (g.K.Sink.faults c.args.sink.now) (g.K.Sink.faults c.write_run.new.sink) c.give_back.result.status c.give_back.result.disk
    gave.run c.write_run.ensures.same gave.disk Done gave.status (done.followed, done.all, done.flushed)

pub returns-in-Err-Sink-clause-ends : goal.returns-in-Err-Sink-clause-ends
returns-in-Err-Sink-clause-ends g c =
    let gave = c.give_back-in-Err-Sink.ensures in
    let done = c.in-Err-Sink.ensures in
    has_run g.D.Disk.seen g.D.Disk.may_leave g.D.Disk.moment g.D.Disk.left_since g.D.Disk.failures c.args.core.run c.write_run.new.core.run c.args.events.now (g.K.Sink.written c.args.sink.now) (g.K.Sink.written c.write_run.new.sink)
    (g.K.Sink.is_flushed c.write_run.new.sink) (g.K.Sink.faults c.args.sink.now) (g.K.Sink.faults c.write_run.new.sink) c.give_back-in-Err-Sink.result.status c.give_back-in-Err-Sink.result.disk
    gave.run c.write_run.ensures.same gave.disk SinkFault gave.status (done.part, done.cause (ap Err c.in-Err-Sink.field-0-is))

pub returns-in-Err-NoMemory-clause-ends : goal.returns-in-Err-NoMemory-clause-ends
returns-in-Err-NoMemory-clause-ends g c =
    let gave = c.give_back-in-Err-NoMemory.ensures in
    let done = c.in-Err-NoMemory.ensures in
    has_run g.D.Disk.seen g.D.Disk.may_leave g.D.Disk.moment g.D.Disk.left_since g.D.Disk.failures c.args.core.run c.write_run.new.core.run c.args.events.now (g.K.Sink.written c.args.sink.now) (g.K.Sink.written c.write_run.new.sink)
    (g.K.Sink.is_flushed c.write_run.new.sink) (g.K.Sink.faults c.args.sink.now) (g.K.Sink.faults c.write_run.new.sink) c.give_back-in-Err-NoMemory.result.status c.give_back-in-Err-NoMemory.result.disk
    gave.run c.write_run.ensures.same gave.disk NoMemory gave.status done.part
