use Rattle.std.proofs.Common.{refl}
use Rattle.lv_plain.specs.declared.event.Event.TheVariants.{Fetch as fetch_of}
use Rattle.lv_core.specs.Run.{Gave, rules_of, state_of, view_of}
use Rattle.lv_core.proofs.Happened.{roomy}
use Rattle.lv_core.proofs.Held.{combine_held, gave, open_run, setup_held, stands_held}
use Rattle.lv_core.proofs.running.Run.fetch.Goals as goal

gave_fetch : (g : _) (c : goal.After-push g) → Gave g.D.Disk.seen g.D.Disk.may_leave g.D.Disk.moment g.D.Disk.left_since g.D.Disk.failures (fetch_of c.args.worker) c.args.self.now (view_of c.self.inside.policy c.self.inside.program c.fetch.new.engine c.self.inside.opening.engine.value c.self.inside.places c.push.new.self.list)
gave_fetch g c =
    let r = c.self.inside in
    let v = c.args.self.now in
    let o = open_run r.policy r.program r.engine r.opening.engine.value r.places r.entries.list r.entries.spare v c.self.invariant.roomy c.self.view_is in
    let entry = c.in_ok-given.ensures.entry (rules_of v.settings v.program) (state_of v) (combine_held o) c.requires.policy (stands_held o) in
    gave o
    (fetch_of c.args.worker) c.make_room.new.entries.list c.push.new.self.list c.fetch.new.engine c.in_ok-given.given.entry (c.requires.worker, setup_held o c.requires.setup) refl refl
    c.in_ok-make_room.ensures.same c.push.ensures.added c.in_ok-given.ensures.settings c.in_ok-given.ensures.journal entry

pub invariant_of-self-2 : goal.invariant_of-self-2
invariant_of-self-2 g c =
    record {
      roomy = roomy g.D.Disk.seen g.D.Disk.may_leave g.D.Disk.moment g.D.Disk.left_since g.D.Disk.failures (view_of c.self.inside.policy c.self.inside.program c.fetch.new.engine c.self.inside.opening.engine.value c.self.inside.places c.push.new.self.list) c.make_room.new.entries.spare c.push.new.self.spare (gave_fetch g c).run
          c.in_ok-make_room.ensures.room c.push.ensures.room;
      length_is = c.self.invariant.length_is;
      faults_are = c.self.invariant.faults_are;
    }

pub returns-clause-done : goal.returns-clause-done
returns-clause-done g c = gave_fetch g c

pub returns-clause-input : goal.returns-clause-input
returns-clause-input g c =
    let r = c.self.inside in
    let v = c.args.self.now in
    let o = open_run r.policy r.program r.engine r.opening.engine.value r.places r.entries.list r.entries.spare v c.self.invariant.roomy c.self.view_is in
    c.in_ok-given.ensures.input (rules_of v.settings v.program) (state_of v) (combine_held o) c.requires.policy (stands_held o)

pub returns-in_err-given-clause-most : goal.returns-in_err-given-clause-most
returns-in_err-given-clause-most g c =
    let r = c.self.inside in
    let v = c.args.self.now in
    let o = open_run r.policy r.program r.engine r.opening.engine.value r.places r.entries.list r.entries.spare v c.self.invariant.roomy c.self.view_is in
    c.fetch.ensures.most (rules_of v.settings v.program) (state_of v) (combine_held o) c.requires.policy (stands_held o)

pub returns-clause-most : goal.returns-clause-most
returns-clause-most g c =
    let r = c.self.inside in
    let v = c.args.self.now in
    let o = open_run r.policy r.program r.engine r.opening.engine.value r.places r.entries.list r.entries.spare v c.self.invariant.roomy c.self.view_is in
    c.fetch.ensures.most (rules_of v.settings v.program) (state_of v) (combine_held o) c.requires.policy (stands_held o)
