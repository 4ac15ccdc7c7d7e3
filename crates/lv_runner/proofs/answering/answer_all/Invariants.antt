use Rattle.std.proofs.Common.{take}
use Rattle.lv_core.specs.Run.{IsRun}
use Rattle.lv_runner.specs.Following.{GoesOn, HasFollowed}
use Rattle.lv_runner.proofs.answering.answer_all.Given as goal

abbrev pub invariant-loop-event : goal.invariant-loop-event
invariant-loop-event g l = record {
  run : IsRun g.D.Disk.seen g.D.Disk.may_leave g.D.Disk.moment g.D.Disk.left_since g.D.Disk.failures l.core.run;
  same : GoesOn l.initial.core.run l.core.run;
  followed : HasFollowed l.core.run (take l.event-index l.events);
}
