use Rattle.lv_runner.proofs.Texts.{on_err, stopped_first, stopped_whole}
use Rattle.lv_runner.proofs.following.write_run.Goals as goal

pub returns-in_err-names-clause-part : goal.returns-in_err-names-clause-part
returns-in_err-names-clause-part g c =
    on_err c.from_residual.result
    (stopped_first g.D.Disk.seen g.D.Disk.may_leave g.D.Disk.moment g.D.Disk.left_since g.D.Disk.failures c.args.core.now.run c.args.events.now (g.K.Sink.written c.args.sink.now) c.known.ensures.run c.requires.fresh)

pub returns-in_err-flush-clause-part : goal.returns-in_err-flush-clause-part
returns-in_err-flush-clause-part g c =
    let done = c.in_ok-follow.ensures in
    on_err c.from_residual-in_err-flush.result
    (stopped_whole c.follow.new.core.run c.args.events.now (g.K.Sink.written c.args.sink.now) (g.K.Sink.written c.follow.new.sink) (g.K.Sink.written c.flush.new.self) done.followed done.all c.flush.ensures.bytes)
