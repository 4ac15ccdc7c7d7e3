use Rattle.lv_runner.proofs.Named.{were_names}
use Rattle.lv_runner.proofs.Texts.{answered, broken_off}
use Rattle.lv_runner.proofs.following.follow_event.Goals as goal

pub returns-clause-all : goal.returns-clause-all
returns-clause-all g c =
    answered g.D.Disk.seen g.D.Disk.may_leave g.D.Disk.moment g.D.Disk.left_since g.D.Disk.failures c.write_entry.result c.args.event.now c.args.core.now.run c.answer_event.new.core.run (g.K.Sink.written c.args.sink.now)
    (g.K.Sink.written c.write_entry.new.sink) c.in_ok-answer_event.ensures.gave c.write_entry.ensures.all

pub returns-clause-part : goal.returns-clause-part
returns-clause-part g c =
    broken_off g.D.Disk.seen g.D.Disk.may_leave g.D.Disk.moment g.D.Disk.left_since g.D.Disk.failures c.write_entry.result c.args.event.now c.args.core.now.run c.answer_event.new.core.run (g.K.Sink.written c.args.sink.now)
    (g.K.Sink.written c.write_entry.new.sink) c.in_ok-answer_event.ensures.gave c.write_entry.ensures.part

pub write_entry-requires : goal.write_entry-requires
write_entry-requires g c =
    were_names g.D.Disk.seen g.D.Disk.may_leave g.D.Disk.moment g.D.Disk.left_since g.D.Disk.failures c.args.event.now c.args.core.now.run c.answer_event.new.core.run c.args.names.now c.in_ok-answer_event.ensures.gave c.requires.names
