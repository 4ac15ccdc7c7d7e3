use Rattle.std.proofs.Common.{false}
use Rattle.lv_plain.specs.declared.event.Event.TheVariants.{Clean as clean_up}
use Rattle.lv_core.specs.Answering.{GivesEntry}
use Rattle.lv_core.specs.Run.{rules_of, state_of, view_of}
use Rattle.lv_core.proofs.Happened.{given_by}
use Rattle.lv_core.proofs.Held.{open_run, stands_held}
use Rattle.lv_core.proofs.Installs.{free_end, free_middle, gave_install, installs_alone, installs_and_cleans, roomy_end, roomy_middle}
use Rattle.lv_core.proofs.running.Run.install_and_clean.Goals as goal

pub invariant_of-self-else-cleans : goal.invariant_of-self-else-cleans
invariant_of-self-else-cleans g c =
    let r = c.self.inside in
    let v = c.args.self.now in
    let o = open_run r.policy r.program r.engine r.opening.engine.value r.places r.entries.list r.entries.spare v c.self.invariant.roomy c.self.view_is in
    record {
      roomy = roomy_middle o c.args.worker c.requires.worker c.requires.setup c.make_room.new.entries.list c.push.new.self.list c.install.new.engine c.in_ok-entry.entry
          c.in_ok-make_room.ensures.same c.push.ensures.added c.in_ok-entry.ensures.settings c.in_ok-entry.ensures.journal (c.in_ok-entry.ensures.entry (rules_of v.settings v.program) (state_of v) (stands_held o))
          c.make_room.new.entries.spare c.push.new.self.spare c.in_ok-make_room.ensures.room c.push.ensures.room;
      length_is = c.self.invariant.length_is;
      faults_are = c.self.invariant.faults_are;
    }

pub returns-else-cleans-clause-done : goal.returns-else-cleans-clause-done
returns-else-cleans-clause-done g c =
    let r = c.self.inside in
    let v = c.args.self.now in
    let o = open_run r.policy r.program r.engine r.opening.engine.value r.places r.entries.list r.entries.spare v c.self.invariant.roomy c.self.view_is in
    installs_alone o c.args.worker c.requires.worker c.requires.setup c.make_room.new.entries.list c.push.new.self.list c.install.new.engine c.in_ok-entry.entry
    c.in_ok-make_room.ensures.same c.push.ensures.added c.in_ok-entry.ensures.settings c.in_ok-entry.ensures.journal (c.in_ok-entry.ensures.entry (rules_of v.settings v.program) (state_of v) (stands_held o))
    c.is_installed-cleans.result c.is_installed-cleans.ensures c.if-cleans.false

pub returns-else-cleans-clause-free : goal.returns-else-cleans-clause-free
returns-else-cleans-clause-free g c =
    let r = c.self.inside in
    let v = c.args.self.now in
    let o = open_run r.policy r.program r.engine r.opening.engine.value r.places r.entries.list r.entries.spare v c.self.invariant.roomy c.self.view_is in
    free_middle o c.args.worker c.requires.worker c.requires.setup c.make_room.new.entries.list c.push.new.self.list c.install.new.engine c.in_ok-entry.entry
    c.in_ok-make_room.ensures.same c.push.ensures.added c.in_ok-entry.ensures.settings c.in_ok-entry.ensures.journal (c.in_ok-entry.ensures.entry (rules_of v.settings v.program) (state_of v) (stands_held o))

-- a clean-up follows
clean_given : (g : _) (c : goal.After-push-then-cleans g)
    → let r = c.self.inside in GivesEntry (given_by false (view_of r.policy r.program c.install.new.engine r.opening.engine.value r.places c.push.new.self.list) clean_up) c.clean-entry.new.engine c.clean-entry.result
clean_given g c =
    let r = c.self.inside in
    let v = c.args.self.now in
    let o = open_run r.policy r.program r.engine r.opening.engine.value r.places r.entries.list r.entries.spare v c.self.invariant.roomy c.self.view_is in
    let m = view_of r.policy r.program c.install.new.engine r.opening.engine.value r.places c.push.new.self.list in
    c.clean-entry.ensures.entry (rules_of m.settings m.program) (state_of m) (gave_install o c.args.worker c.requires.worker c.requires.setup c.make_room.new.entries.list c.push.new.self.list c.install.new.engine c.in_ok-entry.entry
    c.in_ok-make_room.ensures.same c.push.ensures.added c.in_ok-entry.ensures.settings c.in_ok-entry.ensures.journal (c.in_ok-entry.ensures.entry (rules_of v.settings v.program) (state_of v) (stands_held o))).run.stands

pub invariant_of-self-then-cleans : goal.invariant_of-self-then-cleans
invariant_of-self-then-cleans g c =
    let r = c.self.inside in
    let v = c.args.self.now in
    let o = open_run r.policy r.program r.engine r.opening.engine.value r.places r.entries.list r.entries.spare v c.self.invariant.roomy c.self.view_is in
    record {
      roomy = roomy_end o c.args.worker c.requires.worker c.requires.setup c.make_room.new.entries.list c.push.new.self.list c.install.new.engine c.in_ok-entry.entry
          c.in_ok-make_room.ensures.same c.push.ensures.added c.in_ok-entry.ensures.settings c.in_ok-entry.ensures.journal (c.in_ok-entry.ensures.entry (rules_of v.settings v.program) (state_of v) (stands_held o))
          c.make_room.new.entries.spare c.push.new.self.spare c.in_ok-make_room.ensures.room c.push.ensures.room c.clean-entry.new.engine c.push-then-cleans.new.self.list c.clean-entry.result c.push-then-cleans.ensures.added c.clean-entry.ensures.settings c.clean-entry.ensures.journal (clean_given g c)
          c.push-then-cleans.new.self.spare c.push-then-cleans.ensures.room;
      length_is = c.self.invariant.length_is;
      faults_are = c.self.invariant.faults_are;
    }

pub returns-then-cleans-clause-done : goal.returns-then-cleans-clause-done
returns-then-cleans-clause-done g c =
    let r = c.self.inside in
    let v = c.args.self.now in
    let o = open_run r.policy r.program r.engine r.opening.engine.value r.places r.entries.list r.entries.spare v c.self.invariant.roomy c.self.view_is in
    installs_and_cleans o c.args.worker c.requires.worker c.requires.setup c.make_room.new.entries.list c.push.new.self.list c.install.new.engine c.in_ok-entry.entry
    c.in_ok-make_room.ensures.same c.push.ensures.added c.in_ok-entry.ensures.settings c.in_ok-entry.ensures.journal (c.in_ok-entry.ensures.entry (rules_of v.settings v.program) (state_of v) (stands_held o))
    c.make_room.new.entries.spare c.push.new.self.spare c.in_ok-make_room.ensures.room c.push.ensures.room c.clean-entry.new.engine c.push-then-cleans.new.self.list c.clean-entry.result c.push-then-cleans.ensures.added c.clean-entry.ensures.settings c.clean-entry.ensures.journal (clean_given g c)
    c.is_installed-cleans.result c.is_installed-cleans.ensures c.if-cleans.true

pub returns-then-cleans-clause-free : goal.returns-then-cleans-clause-free
returns-then-cleans-clause-free g c =
    let r = c.self.inside in
    let v = c.args.self.now in
    let o = open_run r.policy r.program r.engine r.opening.engine.value r.places r.entries.list r.entries.spare v c.self.invariant.roomy c.self.view_is in
    free_end o c.args.worker c.requires.worker c.requires.setup c.make_room.new.entries.list c.push.new.self.list c.install.new.engine c.in_ok-entry.entry
    c.in_ok-make_room.ensures.same c.push.ensures.added c.in_ok-entry.ensures.settings c.in_ok-entry.ensures.journal (c.in_ok-entry.ensures.entry (rules_of v.settings v.program) (state_of v) (stands_held o))
    c.make_room.new.entries.spare c.push.new.self.spare c.in_ok-make_room.ensures.room c.push.ensures.room c.clean-entry.new.engine c.push-then-cleans.new.self.list c.clean-entry.result c.push-then-cleans.ensures.added c.clean-entry.ensures.settings c.clean-entry.ensures.journal (clean_given g c)
