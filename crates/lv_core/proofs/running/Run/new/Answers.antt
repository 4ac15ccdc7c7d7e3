use Rattle.lv_core.proofs.Begins.{run_begins}
use Rattle.lv_core.proofs.running.Run.new.Goals as goal

pub invariant_of-result : goal.invariant_of-result
invariant_of-result g c =
    run_begins g.D.Disk.seen g.D.Disk.may_leave g.D.Disk.moment g.D.Disk.left_since g.D.Disk.failures g.met.D.Disk.only_now c.args.policy c.args.program c.args.engine c.of-opening.result.engine.value c.in-Ok.places c.in-Ok-room_for_all.entries.list c.in-Ok-room_for_all.entries.spare c.of-opening.result.counts.length
    c.of-opening.result.counts.faults c.of-opening.ensures.engine c.in-Ok.ensures c.in-Ok-room_for_all.ensures c.requires.within c.requires.opening c.requires.records c.known.ensures c.of-opening.ensures.length c.of-opening.ensures.faults
