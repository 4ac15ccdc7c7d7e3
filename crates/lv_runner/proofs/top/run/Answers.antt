use Rattle.std.proofs.Common.{arith}
use Rattle.lv_runner.proofs.Ended.{completes}
use Rattle.lv_runner.proofs.Pickers.{kind_at, length_three}
use Rattle.lv_runner.proofs.top.run.Goals as goal

pub remove-picker-requires : goal.remove-picker-requires
remove-picker-requires g c = omega (arith, c.in-Ok.ensures.range.policy, length_three _ c.args.pickers c.requires.pickers)

pub answer-requires-clause-policy : goal.answer-requires-clause-policy
answer-requires-clause-policy g c lifetimes outlive = kind_at _ c.args.pickers c.in-Ok.words.policy c.remove-picker.result c.requires.pickers c.in-Ok.ensures.range.policy c.remove-picker.ensures.taken

pub returns-in-Ok-clause-complete : goal.returns-in-Ok-clause-complete
returns-in-Ok-clause-complete g c = λ w there well.
    completes g.O.Disk.Disk.seen g.O.Disk.Disk.may_leave g.O.Disk.Disk.moment g.O.Disk.Disk.left_since g.O.Disk.Disk.failures (g.O.Disks.holds c.args.disks.now) _ _ c.answer.result.disk c.args.words.now c.in-Ok.words c.in-Ok.ensures.accepted
    c.answer.result.status c.answer.ensures.ends w there well
