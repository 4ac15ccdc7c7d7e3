use Rattle.std.proofs.Common.{Err, inl, inr, sym, ap, ◌∙◌}
use Rattle.std.proofs.KnownBytes.{Keeps-refl}
use Rattle.lv_runner.specs.declared.status.Status.TheVariants.{Done, SinkFault, NoMemory}
use Rattle.lv_runner.proofs.LateRuns.{from_ok}
use Rattle.lv_runner.proofs.Outputs.{has_threaded}
use Rattle.lv_runner.proofs.threads.finish.Goals as goal

pub returns-then-is_err-clause-ends : goal.returns-then-is_err-clause-ends
returns-then-is_err-clause-ends g c =
    let gave = c.give_back.ensures in
    has_threaded g.D.Disk.seen g.D.Disk.may_leave g.D.Disk.moment g.D.Disk.left_since g.D.Disk.failures c.args.core.run c.answer_rest.new.core.run (g.K.Sink.written c.args.sink.now) (g.K.Sink.written c.args.sink.now)
    (g.K.Sink.is_flushed c.args.sink.now) (g.K.Sink.faults c.args.sink.now) (g.K.Sink.faults c.args.sink.now) c.give_back.result.status c.give_back.result.disk
    gave.run c.answer_rest.ensures.same gave.disk NoMemory gave.status
    (inl (Keeps-refl (g.K.Sink.written c.args.sink.now)))

pub returns-in-Ok-clause-ends : goal.returns-in-Ok-clause-ends
returns-in-Ok-clause-ends g c =
    let gave = c.give_back-in-Ok.ensures in
    has_threaded g.D.Disk.seen g.D.Disk.may_leave g.D.Disk.moment g.D.Disk.left_since g.D.Disk.failures c.args.core.run c.answer_rest.new.core.run (g.K.Sink.written c.args.sink.now) (g.K.Sink.written c.write_output.new.sink)
    (g.K.Sink.is_flushed c.write_output.new.sink) (g.K.Sink.faults c.args.sink.now) (g.K.Sink.faults c.write_output.new.sink) c.give_back-in-Ok.result.status c.give_back-in-Ok.result.disk
    gave.run c.answer_rest.ensures.same gave.disk Done gave.status
    (from_ok c.answer_rest.result (sym c.is_err.ensures.value ∙ c.if-is_err.false) c.answer_rest.ensures.answered, c.in-Ok.ensures.all, c.in-Ok.ensures.flushed)

pub returns-in-Err-Sink-clause-ends : goal.returns-in-Err-Sink-clause-ends
returns-in-Err-Sink-clause-ends g c =
    let gave = c.give_back-in-Err-Sink.ensures in
    has_threaded g.D.Disk.seen g.D.Disk.may_leave g.D.Disk.moment g.D.Disk.left_since g.D.Disk.failures c.args.core.run c.answer_rest.new.core.run (g.K.Sink.written c.args.sink.now) (g.K.Sink.written c.write_output.new.sink)
    (g.K.Sink.is_flushed c.write_output.new.sink) (g.K.Sink.faults c.args.sink.now) (g.K.Sink.faults c.write_output.new.sink) c.give_back-in-Err-Sink.result.status c.give_back-in-Err-Sink.result.disk
    gave.run c.answer_rest.ensures.same gave.disk SinkFault gave.status
    (from_ok c.answer_rest.result (sym c.is_err.ensures.value ∙ c.if-is_err.false) c.answer_rest.ensures.answered, c.in-Err-Sink.ensures.part, c.in-Err-Sink.ensures.cause (ap Err c.in-Err-Sink.field-0-is))

pub returns-in-Err-NoMemory-clause-ends : goal.returns-in-Err-NoMemory-clause-ends
returns-in-Err-NoMemory-clause-ends g c =
    let gave = c.give_back-in-Err-NoMemory.ensures in
    has_threaded g.D.Disk.seen g.D.Disk.may_leave g.D.Disk.moment g.D.Disk.left_since g.D.Disk.failures c.args.core.run c.answer_rest.new.core.run (g.K.Sink.written c.args.sink.now) (g.K.Sink.written c.write_output.new.sink)
    (g.K.Sink.is_flushed c.write_output.new.sink) (g.K.Sink.faults c.args.sink.now) (g.K.Sink.faults c.write_output.new.sink) c.give_back-in-Err-NoMemory.result.status c.give_back-in-Err-NoMemory.result.disk
    gave.run c.answer_rest.ensures.same gave.disk NoMemory gave.status
    (inr (from_ok c.answer_rest.result (sym c.is_err.ensures.value ∙ c.if-is_err.false) c.answer_rest.ensures.answered, c.in-Err-NoMemory.ensures.part))
