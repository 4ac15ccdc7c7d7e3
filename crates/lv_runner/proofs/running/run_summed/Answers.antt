use Rattle.std.proofs.Common.{Some, Err, inl, inr, sym, ap, ◌∙◌}
use Rattle.std.proofs.KnownBytes.{Keeps-refl}
use Rattle.lv_runner.specs.declared.status.Status.TheVariants.{Done, SinkFault, NoMemory}
use Rattle.lv_runner.proofs.LateRuns.{from_err, from_ok}
use Rattle.lv_runner.proofs.Outputs.{has_summed}
use Rattle.lv_runner.proofs.running.run_summed.Goals as goal

pub returns-then-is_err-clause-ends : goal.returns-then-is_err-clause-ends
returns-then-is_err-clause-ends g c =
    let gave = c.give_back.ensures in
    has_summed g.D.Disk.seen g.D.Disk.may_leave g.D.Disk.moment g.D.Disk.left_since g.D.Disk.failures c.args.core.run c.answer_all.new.core.run c.args.events.now (g.K.Sink.written c.args.sink.now) (g.K.Sink.written c.args.sink.now)
    (g.K.Sink.is_flushed c.args.sink.now) (g.K.Sink.faults c.args.sink.now) (g.K.Sink.faults c.args.sink.now) c.give_back.result.status c.give_back.result.disk
    (Some c.args.made) gave.run c.answer_all.ensures.same gave.disk NoMemory gave.status
    (inl (from_err c.answer_all.result (sym c.is_err.ensures.value ∙ c.if-is_err.true) c.answer_all.ensures.come, Keeps-refl (g.K.Sink.written c.args.sink.now)))

pub returns-in-Ok-clause-ends : goal.returns-in-Ok-clause-ends
returns-in-Ok-clause-ends g c =
    let gave = c.give_back-in-Ok.ensures in
    has_summed g.D.Disk.seen g.D.Disk.may_leave g.D.Disk.moment g.D.Disk.left_since g.D.Disk.failures c.args.core.run c.answer_all.new.core.run c.args.events.now (g.K.Sink.written c.args.sink.now) (g.K.Sink.written c.write_output.new.sink)
    (g.K.Sink.is_flushed c.write_output.new.sink) (g.K.Sink.faults c.args.sink.now) (g.K.Sink.faults c.write_output.new.sink) c.give_back-in-Ok.result.status c.give_back-in-Ok.result.disk
    (Some c.args.made) gave.run c.answer_all.ensures.same gave.disk Done gave.status
    ((from_ok c.answer_all.result (sym c.is_err.ensures.value ∙ c.if-is_err.false) c.answer_all.ensures.followed), c.in-Ok.ensures.all, c.in-Ok.ensures.flushed)

pub returns-in-Err-Sink-clause-ends : goal.returns-in-Err-Sink-clause-ends
returns-in-Err-Sink-clause-ends g c =
    let gave = c.give_back-in-Err-Sink.ensures in
    has_summed g.D.Disk.seen g.D.Disk.may_leave g.D.Disk.moment g.D.Disk.left_since g.D.Disk.failures c.args.core.run c.answer_all.new.core.run c.args.events.now (g.K.Sink.written c.args.sink.now) (g.K.Sink.written c.write_output.new.sink)
    (g.K.Sink.is_flushed c.write_output.new.sink) (g.K.Sink.faults c.args.sink.now) (g.K.Sink.faults c.write_output.new.sink) c.give_back-in-Err-Sink.result.status c.give_back-in-Err-Sink.result.disk
    (Some c.args.made) gave.run c.answer_all.ensures.same gave.disk SinkFault gave.status
    ((from_ok c.answer_all.result (sym c.is_err.ensures.value ∙ c.if-is_err.false) c.answer_all.ensures.followed), c.in-Err-Sink.ensures.part, c.in-Err-Sink.ensures.cause (ap Err c.in-Err-Sink.field-0-is))

pub returns-in-Err-NoMemory-clause-ends : goal.returns-in-Err-NoMemory-clause-ends
returns-in-Err-NoMemory-clause-ends g c =
    let gave = c.give_back-in-Err-NoMemory.ensures in
    has_summed g.D.Disk.seen g.D.Disk.may_leave g.D.Disk.moment g.D.Disk.left_since g.D.Disk.failures c.args.core.run c.answer_all.new.core.run c.args.events.now (g.K.Sink.written c.args.sink.now) (g.K.Sink.written c.write_output.new.sink)
    (g.K.Sink.is_flushed c.write_output.new.sink) (g.K.Sink.faults c.args.sink.now) (g.K.Sink.faults c.write_output.new.sink) c.give_back-in-Err-NoMemory.result.status c.give_back-in-Err-NoMemory.result.disk
    (Some c.args.made) gave.run c.answer_all.ensures.same gave.disk NoMemory gave.status
    (inr ((from_ok c.answer_all.result (sym c.is_err.ensures.value ∙ c.if-is_err.false) c.answer_all.ensures.followed), c.in-Err-NoMemory.ensures.part))
