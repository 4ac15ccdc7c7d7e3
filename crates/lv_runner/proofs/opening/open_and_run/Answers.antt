use Rattle.lv_runner.specs.Ends.{Ends, Outside}
use Rattle.lv_runner.proofs.HandedOut.{ends_opened}
use Rattle.lv_runner.proofs.opening.open_and_run.Goals as goal

pub returns-in-Ok-clause-ends : goal.returns-in-Ok-clause-ends
returns-in-Ok-clause-ends g c left0 left1 faults0 faults1 bytes input script =
    let failures = g.O.Disk.Disk.failures in
    let old : Outside = record {
      left = left0;
      source_faults = faults0;
      written = g.K.Sink.written c.args.sink.now;
      is_flushed = g.K.Sink.is_flushed c.args.sink.now;
      sink_faults = g.K.Sink.faults c.args.sink.now;
      disks_faults = g.O.Disks.failures c.args.disks.now;
      openings = g.O.Disks.openings c.args.disks.now;
    } in
    let new : Outside = record {
      left = left1;
      source_faults = faults1;
      written = g.K.Sink.written c.run_on.new.sink;
      is_flushed = g.K.Sink.is_flushed c.run_on.new.sink;
      sink_faults = g.K.Sink.faults c.run_on.new.sink;
      disks_faults = g.O.Disks.failures c.open_disk.new.disks;
      openings = g.O.Disks.openings c.open_disk.new.disks;
    } in
    let path = c.args.words.now.log in
    let holds = g.O.Disks.holds c.args.disks.now path in
    ends_opened g.O.Disk.Disk.seen g.O.Disk.Disk.may_leave g.O.Disk.Disk.moment g.O.Disk.Disk.left_since failures c.args.words.now holds path old new bytes input (failures c.in-Ok.disk) c.in-Ok.ensures.opened c.run_on.result.status c.run_on.result.disk
    (c.run_on.ensures.ends holds bytes c.in-Ok.ensures.bytes script)
