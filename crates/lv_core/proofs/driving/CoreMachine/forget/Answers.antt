use Rattle.std.proofs.Common.{ap, ◌∙◌}
use Rattle.std.specs.Prelude.{◌-◌}
use Rattle.lv_schema.specs.UpkeepCases.{claim_of}
use Rattle.lv_core.specs.Run.{CoreView, state_of}
use Rattle.lv_core.specs.Slots.{SlotsKept, slot_of}
use Rattle.lv_core.proofs.Grown.{either_actor, empty_slot, grown_frees, grown_same, grown_twice, other_empty, others_free}
use Rattle.lv_core.proofs.driving.CoreMachine.forget.Goals as goal

pub returns-clause-goes_on : goal.returns-clause-goes_on
returns-clause-goes_on g c = λ first from.
    let old = c.args.self.now.run in
    let new = c.forget_work.new.self.run in
    grown_twice first.run old new from
    (either_actor c.args.actor (λ low. grown_same old new (c.forget_work.ensures.session low))
    (λ high. grown_frees g.D.Disk.seen g.D.Disk.may_leave g.D.Disk.moment g.D.Disk.left_since g.D.Disk.failures (c.args.actor - 16) old new (c.forget_work.ensures.worker high)))

pub returns-clause-free : goal.returns-clause-free
returns-clause-free g c = (c.forget_work.ensures.free, λ high. empty_slot c.args.self.now.slots c.forget_work.new.self.slots (c.args.actor - 16) (c.forget_work.ensures.slot high))

pub returns-clause-others : goal.returns-clause-others
returns-clause-others g c = λ other free.
    let old = c.args.self.now in
    let new = c.forget_work.new.self in (
      λ is. either_actor c.args.actor (λ low. ap (λ (r : CoreView _). claim_of (state_of r).world.upkeep (other - 16)) (c.forget_work.ensures.session low) ∙ free.0 is)
          (λ high. others_free g.D.Disk.seen g.D.Disk.may_leave g.D.Disk.moment g.D.Disk.left_since g.D.Disk.failures (c.args.actor - 16) (other - 16) old.run new.run (c.forget_work.ensures.worker high) (free.0 is)),
      λ is. either_actor c.args.actor (λ low. ap (λ (slots : SlotsKept). slot_of slots (other - 16)) (c.forget_work.ensures.slots low) ∙ free.1 is)
          (λ high. other_empty old.slots new.slots (c.args.actor - 16) (other - 16) (c.forget_work.ensures.slot high) (free.1 is)),
    )
