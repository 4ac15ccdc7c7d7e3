use Rattle.std.proofs.Common.{refl}
use Rattle.lv_plain.specs.declared.event.Event.TheVariants.{Release as release_of}
use Rattle.lv_core.specs.Run.{Gave, rules_of, state_of, view_of}
use Rattle.lv_core.proofs.Happened.{may_release, room_to_release, roomy_released}
use Rattle.lv_core.proofs.Held.{gave, open_run, roomy_held, stands_held}
use Rattle.lv_core.proofs.running.Run.release.Goals as goal

gave_release : (g : _) (c : goal.After-push g) → Gave g.D.Disk.seen g.D.Disk.may_leave g.D.Disk.moment g.D.Disk.left_since g.D.Disk.failures (release_of c.args.worker) c.args.self.now (view_of c.self.inside.policy c.self.inside.program c.release-entry.new.engine c.self.inside.opening.engine.value c.self.inside.places c.push.new.self.list)
gave_release g c =
    let r = c.self.inside in
    let v = c.args.self.now in
    let o = open_run r.policy r.program r.engine r.opening.engine.value r.places r.entries.list r.entries.spare v c.self.invariant.roomy c.self.view_is in
    let may = may_release g.D.Disk.seen g.D.Disk.may_leave g.D.Disk.moment g.D.Disk.left_since g.D.Disk.failures c.args.self.now c.args.worker c.self.inside.entries.spare (roomy_held o) c.requires.worker c.requires.claim in
    let entry = c.release-entry.ensures.entry (rules_of v.settings v.program) (state_of v) (stands_held o) in
    gave o
    (release_of c.args.worker) r.entries.list c.push.new.self.list c.release-entry.new.engine c.release-entry.result may refl refl refl c.push.ensures.added c.release-entry.ensures.settings c.release-entry.ensures.journal entry

pub push-requires : goal.push-requires
push-requires g c =
    let r = c.self.inside in
    let v = c.args.self.now in
    let o = open_run r.policy r.program r.engine r.opening.engine.value r.places r.entries.list r.entries.spare v c.self.invariant.roomy c.self.view_is in
    room_to_release g.D.Disk.seen g.D.Disk.may_leave g.D.Disk.moment g.D.Disk.left_since g.D.Disk.failures c.args.self.now c.args.worker c.self.inside.entries.spare (roomy_held o) c.requires.worker c.requires.claim

pub invariant_of-self : goal.invariant_of-self
invariant_of-self g c =
    let r = c.self.inside in
    let v = c.args.self.now in
    let o = open_run r.policy r.program r.engine r.opening.engine.value r.places r.entries.list r.entries.spare v c.self.invariant.roomy c.self.view_is in
    record {
      roomy = roomy_released g.D.Disk.seen g.D.Disk.may_leave g.D.Disk.moment g.D.Disk.left_since g.D.Disk.failures c.args.self.now c.args.worker c.self.inside.entries.spare (roomy_held o) c.requires.worker c.requires.claim
          (view_of c.self.inside.policy c.self.inside.program c.release-entry.new.engine c.self.inside.opening.engine.value c.self.inside.places c.push.new.self.list) c.push.new.self.spare (gave_release g c) c.push.ensures.room;
      length_is = c.self.invariant.length_is;
      faults_are = c.self.invariant.faults_are;
    }

pub returns : goal.returns
returns g c = gave_release g c
