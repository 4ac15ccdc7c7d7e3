use Rattle.std.specs.Prelude.{◌-◌}
use Rattle.lv_core.proofs.Grown.{either_actor, empty_slot, grown_same, grown_takes, grown_twice}
use Rattle.lv_core.proofs.driving.CoreMachine.take.Goals as goal

pub returns-clause-goes_on : goal.returns-clause-goes_on
returns-clause-goes_on g c = λ first from.
    let old = c.args.self.now.run in
    let new = c.take_work-taken.new.self.run in
    grown_twice first.run old new from
    (either_actor c.args.actor (λ low. grown_same old new (c.take_work-taken.ensures.session low))
    (λ high. grown_takes g.D.Disk.seen g.D.Disk.may_leave g.D.Disk.moment g.D.Disk.left_since g.D.Disk.failures (c.args.actor - 16) old new c.take_work-taken.result (c.take_work-taken.ensures.worker high)))

pub returns-clause-free : goal.returns-clause-free
returns-clause-free g c = λ none. (c.take_work-taken.ensures.free none, λ high. empty_slot c.args.self.now.slots c.take_work-taken.new.self.slots (c.args.actor - 16) (c.take_work-taken.ensures.slot high))
