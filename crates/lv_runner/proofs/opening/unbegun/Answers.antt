use Rattle.std.proofs.Common.{subst, sym}
use Rattle.lv_runner.specs.Written.{HasWrittenPart}
use Rattle.lv_runner.proofs.Outputs.{ends_at_once}
use Rattle.lv_runner.proofs.opening.unbegun.Goals as goal

pub returns : goal.returns
returns g c w p written is_flushed faults told bytes count begun =
    subst (HasWrittenPart g.D.Disk.seen g.D.Disk.may_leave g.D.Disk.moment g.D.Disk.left_since g.D.Disk.failures w told bytes written written count) (sym c.into_disk.ensures)
    (ends_at_once g.D.Disk.seen g.D.Disk.may_leave g.D.Disk.moment g.D.Disk.left_since g.D.Disk.failures w told bytes p count c.args.engine begun g.met.D.Disk.only_now written)
