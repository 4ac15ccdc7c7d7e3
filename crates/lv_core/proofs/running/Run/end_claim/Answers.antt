use Rattle.std.proofs.Common.{◌≡◌, None, sym, ◌∙◌}
use Rattle.lv_schema.specs.UpkeepCases.{claim_of}
use Rattle.lv_engine.proofs.NoneLeft.{claim_is}
use Rattle.lv_core.specs.Run.{state_of}
use Rattle.lv_core.proofs.Held.{open_run, roomy_held, stands_held}
use Rattle.lv_core.proofs.Standing.{none_is}
use Rattle.lv_core.proofs.Workers.{released_places, same_views}
use Rattle.lv_core.proofs.running.Run.end_claim.Goals as goal

pub returns-then-is_none-clause-views : goal.returns-then-is_none-clause-views
returns-then-is_none-clause-views g c =
    let r = c.self.inside in
    let v = c.args.self.now in
    let o = open_run r.policy r.program r.engine r.opening.engine.value r.places r.entries.list r.entries.spare v c.self.invariant.roomy c.self.view_is in
    let stands = stands_held o in
    let none : claim_of (state_of v).world.upkeep c.args.worker ≡ None = sym (claim_is (state_of v).world r.engine c.args.worker stands) ∙ sym c.claim.ensures ∙ none_is c.claim.result c.if-is_none.ensures in
    same_views g.D.Disk.seen g.D.Disk.may_leave g.D.Disk.moment g.D.Disk.left_since g.D.Disk.failures v c.args.worker none

pub returns-clause-places : goal.returns-clause-places
returns-clause-places g c =
    let r = c.self.inside in
    let v = c.args.self.now in
    let o = open_run r.policy r.program r.engine r.opening.engine.value r.places r.entries.list r.entries.spare v c.self.invariant.roomy c.self.view_is in
    let run = (roomy_held o).run in
    released_places g.D.Disk.seen g.D.Disk.may_leave g.D.Disk.moment g.D.Disk.left_since g.D.Disk.failures v c.release.new.self c.args.worker run c.requires c.release.ensures
