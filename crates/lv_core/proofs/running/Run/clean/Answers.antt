use Rattle.std.proofs.Common.{refl}
use Rattle.lv_plain.specs.declared.event.Event.TheVariants.{Clean as clean_up}
use Rattle.lv_core.specs.Run.{Gave, rules_of, state_of, view_of}
use Rattle.lv_core.proofs.Happened.{roomy}
use Rattle.lv_core.proofs.Held.{gave, open_run, setup_held, stands_held}
use Rattle.lv_core.proofs.running.Run.clean.Goals as goal

gave_clean : (g : _) (c : goal.After-push g) → Gave g.D.Disk.seen g.D.Disk.may_leave g.D.Disk.moment g.D.Disk.left_since g.D.Disk.failures clean_up c.args.self.now (view_of c.self.inside.policy c.self.inside.program c.clean-entry.new.engine c.self.inside.opening.engine.value c.self.inside.places c.push.new.self.list)
gave_clean g c =
    let r = c.self.inside in
    let v = c.args.self.now in
    let o = open_run r.policy r.program r.engine r.opening.engine.value r.places r.entries.list r.entries.spare v c.self.invariant.roomy c.self.view_is in
    let entry = c.clean-entry.ensures.entry (rules_of v.settings v.program) (state_of v) (stands_held o) in
    gave o
    clean_up c.make_room.new.entries.list c.push.new.self.list c.clean-entry.new.engine c.clean-entry.result (setup_held o c.requires.setup) refl refl
    c.in_ok-make_room.ensures.same c.push.ensures.added c.clean-entry.ensures.settings c.clean-entry.ensures.journal entry

pub invariant_of-self-2 : goal.invariant_of-self-2
invariant_of-self-2 g c =
    record {
      roomy = roomy g.D.Disk.seen g.D.Disk.may_leave g.D.Disk.moment g.D.Disk.left_since g.D.Disk.failures (view_of c.self.inside.policy c.self.inside.program c.clean-entry.new.engine c.self.inside.opening.engine.value c.self.inside.places c.push.new.self.list) c.make_room.new.entries.spare c.push.new.self.spare (gave_clean g c).run
          c.in_ok-make_room.ensures.room c.push.ensures.room;
      length_is = c.self.invariant.length_is;
      faults_are = c.self.invariant.faults_are;
    }

pub returns-clause-done : goal.returns-clause-done
returns-clause-done g c = gave_clean g c
