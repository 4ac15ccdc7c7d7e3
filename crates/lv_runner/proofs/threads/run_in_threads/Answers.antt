use Rattle.std.proofs.Common.{inl}
use Rattle.std.proofs.KnownBytes.{Keeps-refl}
use Rattle.lv_runner.specs.declared.status.Status.TheVariants.{NoMemory}
use Rattle.lv_runner.proofs.LateRuns.{grown_on}
use Rattle.lv_runner.proofs.Outputs.{has_threaded, threaded_from}
use Rattle.lv_runner.proofs.threads.run_in_threads.Goals as goal

pub returns-then-is_err-clause-ends : goal.returns-then-is_err-clause-ends
returns-then-is_err-clause-ends g c =
    let gave = c.give_back.ensures in
    has_threaded g.D.Disk.seen g.D.Disk.may_leave g.D.Disk.moment g.D.Disk.left_since g.D.Disk.failures c.args.core.run c.answer_setup.new.core.run (g.K.Sink.written c.args.sink.now) (g.K.Sink.written c.args.sink.now)
    (g.K.Sink.is_flushed c.args.sink.now) (g.K.Sink.faults c.args.sink.now) (g.K.Sink.faults c.args.sink.now) c.give_back.result.status c.give_back.result.disk
    gave.run c.answer_setup.ensures.same gave.disk NoMemory gave.status (inl (Keeps-refl (g.K.Sink.written c.args.sink.now)))

pub returns-then-starved-clause-ends : goal.returns-then-starved-clause-ends
returns-then-starved-clause-ends g c =
    let gave = c.give_back-then-starved.ensures in
    has_threaded g.D.Disk.seen g.D.Disk.may_leave g.D.Disk.moment g.D.Disk.left_since g.D.Disk.failures c.args.core.run c.drive_core-back.result.machine.run (g.K.Sink.written c.args.sink.now) (g.K.Sink.written c.args.sink.now)
    (g.K.Sink.is_flushed c.args.sink.now) (g.K.Sink.faults c.args.sink.now) (g.K.Sink.faults c.args.sink.now) c.give_back-then-starved.result.status c.give_back-then-starved.result.disk
    gave.run (grown_on c.args.core.run c.answer_setup.new.core.run c.drive_core-back.result.machine.run c.answer_setup.ensures.same c.drive_core-back.ensures.same) gave.disk NoMemory gave.status (inl (Keeps-refl (g.K.Sink.written c.args.sink.now)))

pub returns-clause-ends : goal.returns-clause-ends
returns-clause-ends g c =
    threaded_from g.D.Disk.seen g.D.Disk.may_leave g.D.Disk.moment g.D.Disk.left_since g.D.Disk.failures c.args.core.run c.drive_core-back.result.machine.run (g.K.Sink.written c.args.sink.now) (g.K.Sink.written c.finish.new.sink) (g.K.Sink.is_flushed c.finish.new.sink) (g.K.Sink.faults c.args.sink.now) (g.K.Sink.faults c.finish.new.sink) c.finish.result.status c.finish.result.disk
    (grown_on c.args.core.run c.answer_setup.new.core.run c.drive_core-back.result.machine.run c.answer_setup.ensures.same c.drive_core-back.ensures.same) c.finish.ensures.ends
