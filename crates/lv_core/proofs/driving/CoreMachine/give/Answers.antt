use Rattle.std.specs.Prelude.{◌-◌}
use Rattle.lv_core.proofs.Grown.{either_actor, empty_slot, grown_gives, grown_turns, grown_twice, on_both}
use Rattle.lv_core.proofs.driving.CoreMachine.give.Goals as goal

pub returns-clause-goes_on : goal.returns-clause-goes_on
returns-clause-goes_on g c = λ first from.
    let old = c.args.self.now.run in
    let new = c.give_results-given.new.self.run in
    grown_twice first.run old new from
    (either_actor c.args.actor (λ low. grown_turns g.D.Disk.seen g.D.Disk.may_leave g.D.Disk.moment g.D.Disk.left_since g.D.Disk.failures c.args.actor old new c.give_results-given.result (c.give_results-given.ensures.session low))
    (λ high. grown_gives g.D.Disk.seen g.D.Disk.may_leave g.D.Disk.moment g.D.Disk.left_since g.D.Disk.failures (c.args.actor - 16) old new c.give_results-given.result (c.give_results-given.ensures.worker high)))

pub returns-clause-free : goal.returns-clause-free
returns-clause-free g c =
    on_both c.give_results-given.result c.give_results-given.ensures.free c.give_results-given.ensures.slot
    (λ holds slot. (holds, λ high. empty_slot c.args.self.now.slots c.give_results-given.new.self.slots (c.args.actor - 16) (slot high)))
