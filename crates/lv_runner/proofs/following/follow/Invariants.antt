use Rattle.std.proofs.Common.{◌≡◌, ◌≤◌, take}
use Rattle.std.specs.Io.KnownBytes.{Appends}
use Rattle.lv_core.specs.Run.{IsRun}
use Rattle.lv_runner.specs.Following.{GoesOn, HasFollowed, names_now, text_now}
use Rattle.lv_runner.proofs.following.follow.Given as goal

abbrev pub invariant-loop-event : goal.invariant-loop-event
invariant-loop-event g l = record {
  run : IsRun g.D.Disk.seen g.D.Disk.may_leave g.D.Disk.moment g.D.Disk.left_since g.D.Disk.failures l.core.run;
  same : GoesOn l.initial.core.run l.core.run;
  followed : HasFollowed l.core.run (take l.event-index l.events);
  names : l.names ≡ names_now l.core.run;
  wrote : Appends (g.K.Sink.written l.initial.sink) (g.K.Sink.written l.sink) (text_now l.core.run);
  later : g.K.Sink.faults l.initial.sink ≤ g.K.Sink.faults l.sink;
}
