use Rattle.std.proofs.Common.{sym}
use Rattle.lv_outside.proofs.Crashes.{one_more}
use Rattle.lv_outside.proofs.crash_disk.image_of.Goals as goal

pub loop-call-preserved : goal.loop-call-preserved
loop-call-preserved c =
    one_more c.args.pick c.args.calls.now c.loop-call.call-index c.call-item.result c.loop-call.image.items c.step.new.image.items c.loop-call-test.true (sym c.call-item.is)
    c.in_ok-step.ensures.image c.in_ok-step.ensures.exact c.in_ok-step.ensures.size c.loop-call.invariant
